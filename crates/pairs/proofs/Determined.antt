-- What the public promise of this crate allows is one outcome, but for the flags, which are scratch.
-- Assumes nothing.
use mathlib.Core.Path.{◌≡◌, sym, ◌∙◌, ap}
use Prim.Native.Nat.{ℕ}
use Rattle.scope.specs.Memory.{Memory}
use Rattle.scope.specs.UnionFind.{United}
use Rattle.pairs.specs.Cancel.{PairCancelled}

pub pair_one : {m m' m'' : Memory} {n row back : ℕ} → PairCancelled m n row back m' → PairCancelled m n row back m''
    → (m'.parent ≡ m''.parent) × (m'.rank ≡ m''.rank) × (m'.slot_row ≡ m''.slot_row) × (m'.slot_cell ≡ m''.slot_cell) × (m'.prev ≡ m''.prev) × (m'.next ≡ m''.next) × (m'.row_slot ≡ m''.row_slot)
pair_one P Q =
    let e = P.united ∙ sym Q.united in (
      ap (λ (u : United). u.parents) e,
      ap (λ (u : United). u.ranks) e,
      P.slot_row ∙ sym Q.slot_row,
      P.slot_cell ∙ sym Q.slot_cell,
      P.prev ∙ sym Q.prev,
      P.next ∙ sym Q.next,
      P.row_slot ∙ sym Q.row_slot,
    )
