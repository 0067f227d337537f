-- What the promise of `free_pair` allows is one outcome. The other public promise of this crate is of equations as they stand.
-- Assumes nothing.
use mathlib.Core.Path.{◌≡◌, sym, ◌∙◌}
use Prim.Native.Nat.{ℕ}
use Rattle.scope.specs.Memory.{Memory}
use Rattle.pair_links.specs.Links.{Freed}

pub freed_one : {m m' m'' : Memory} {x y row back : ℕ} → Freed m x y row back m' → Freed m x y row back m''
    → (m'.slot_row ≡ m''.slot_row) × (m'.slot_cell ≡ m''.slot_cell) × (m'.prev ≡ m''.prev) × (m'.next ≡ m''.next) × (m'.row_slot ≡ m''.row_slot)
freed_one F G = (
  F.slot_row ∙ sym G.slot_row,
  F.slot_cell ∙ sym G.slot_cell,
  F.prev ∙ sym G.prev,
  F.next ∙ sym G.next,
  F.row_slot ∙ sym G.row_slot,
)
