-- What the check answers where the straight passes find no bad row.
-- Assumes nothing.
use Prim.Native.Nat.{◌≤◌}
use mathlib.Core.Path.{◌≡◌}
use mathlib.Core.Bool.{true}
use lib.Dec.{eqb}
use lib.ListN.{length}
use borrow.Author.Tests.{eqb-true, le-ltb}
use native.Mathlib.Omega.{arith}
use Rattle.std.specs.Prelude.{Ok}
use Rattle.scope.specs.Answers.{Verdict}
use Rattle.scope.specs.Lists.{first_bad}
use Rattle.scope.specs.Table.{Table, row_count, row_count_fits, row_good, table_verdict}
use Rattle.scope.specs.Memory.{table_agrees}
use Rattle.scope.proofs.Tests.{and_left, and_right}
use Rattle.edge_table.specs.Checks.{checked}
use Rattle.edge_table.specs.Straight.{NoneBad}

module _ (t : Table) (agree : table_agrees t ≡ true) where
  enough_terms : row_count t ≤ length t.area
  enough_terms =
      let h : length t.area ≡ row_count t = eqb-true _ _ (and_right (eqb (length t.reverse) (row_count t)) _ agree) in
      omega arith

  enough_rows : row_count t ≤ length t.reverse
  enough_rows =
      let h : length t.reverse ≡ row_count t = eqb-true _ _ (and_left (eqb (length t.reverse) (row_count t)) _ agree) in
      omega arith

  pub none_bad_good : row_count_fits (row_count t) ≡ true → NoneBad t → ◌≡◌ {A = Verdict} (Ok tt) (checked t)
  unfolding checked table_verdict
  none_bad_good fits N =
      let e : first_bad (row_good t) (row_count t) ≡ row_count t = eqb-true _ _ (N.rows enough_rows enough_terms) in
      rw (agree, fits, N.targets, e, le-ltb (row_count t) (row_count t) (omega arith))
