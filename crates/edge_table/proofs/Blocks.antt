-- Rows in order stand by their top bytes: the rows of one top byte begin where those of the one before it end.
--     Blocks, blocks_start, -more, -done     the rows of the top bytes so far have the target's resolution and a base cell
-- Assumes nothing.
use Prim.Native.Nat.{ℕ, ◌+◌, ◌*◌, ◌%◌, ◌^◌, ◌<◌, ◌≤◌}
use mathlib.Core.Path.{◌≡◌}
use mathlib.Core.Bool.{true, ◌&&◌}
use mathlib.Core.List.{List}
use mathlib.Core.Logic.{⊎_elim}
use native.Mathlib.Omega.{arith}
use lib.Dec.{eqb, leb}
use lib.ListN.{length}
use borrow.Author.Tests.{eq-eqb, le-leb}
use Rattle.scope.specs.Lists.{at, passes}
use Rattle.scope.specs.Cells.{resolution_of, base_cell}
use Rattle.scope.proofs.Tests.{and_both, le_or_lt}
use Rattle.scope.proofs.Scan.{passes_all}
use Rattle.row_search.specs.Search.{RowsBelow}
use Rattle.edge_table.specs.Straight.{fields_kept}

pub record Blocks (es : List ℕ) (target end block : ℕ) : Type 0 where
  pub kept : (k : ℕ) → k < end → fields_kept target es k ≡ true
  pub field : block % 16 ≡ target

pub blocks_start : {es : List ℕ} {target : ℕ} → target < 16 → Blocks es target 0 (272 + target)
blocks_start h = record { kept = λ k l. absurd (omega arith); field = omega arith }

fits : (x block target : ℕ) → block % 16 ≡ target → block * 2 ^ 52 ≤ x → x < (block * 128 + 122) * 2 ^ 45
    → (eqb (resolution_of x) target && leb (base_cell x) 121) ≡ true
fits x block target e l h = and_both _ _ (eq-eqb (resolution_of x) target (omega arith)) (le-leb (base_cell x) 121 (omega arith))

module _ {es : List ℕ} {target end block : ℕ} (B : Blocks es target end block) where
  pub blocks_more : {next : ℕ} → RowsBelow es (block * 2 ^ 52) end → RowsBelow es ((block * 128 + 122) * 2 ^ 45) next → Blocks es target next (block + 16)
  blocks_more {next} R N = record {
    kept = λ k l. ⊎_elim
        (λ (g : end ≤ k). fits (at es k) block target B.field (R.above k g (let w = N.within in omega arith)) (N.below k l))
        (λ (g : k < end). B.kept k g)
        (le_or_lt end k);
    field = let e = B.field in omega arith;
  }

  pub blocks_done : end ≡ length es → passes (fields_kept target es) (length es) ≡ true
  blocks_done e = passes_all (fields_kept target es) (length es) (λ k l. B.kept k (omega arith))
