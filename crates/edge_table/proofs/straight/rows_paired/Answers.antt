-- `edge_table::straight::rows_paired` meets its contract.
-- Assumes nothing.
use Prim.Native.Nat.{◌*◌, ◌/◌}
use mathlib.Core.Path.{sym, ◌∙◌}
use lib.Dec.{eqb}
use lib.ListN.{length}
use borrow.Author.Tests.{eqb-true}
use Rattle.scope.proofs.Tests.{and_left, and_right}
use Rattle.edge_table.proofs.Halves.{halves_paired}
use Rattle.edge_table.proofs.straight.rows_paired.Goals as goal

pub returns-then-reverse-half : goal.returns-then-reverse-half
returns-then-reverse-half c =
    let rs = c.args.reverse.now in
    let even = eqb (length rs) (2 * (length rs / 2)) in
    sym (halves_paired rs (length rs / 2) (eqb-true _ _ (and_left even _ c.if-reverse-half.true)) (sym c.halves_cross.ensures ∙ and_right even _ c.if-reverse-half.true))
