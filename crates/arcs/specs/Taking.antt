-- One more cell: held, its outline placed, its pairs cancelled.
-- Assumes nothing.
use Rattle.std.specs.Prelude.{◌≡◌, List, ℕ, ◌+◌, ◌*◌, length}
use Rattle.scope.specs.Table.{Table, outline_rows}
use Rattle.scope.specs.Memory.{Memory}
use Rattle.scope.specs.Pool.{free_slots, taking}
use Rattle.scope.proofs.Sound.{Offered}
use Rattle.free_slots.specs.Search.{Flags}

-- The state is sound and accepts the cell, its free slots are flagged as such, and the rows are the cell's outline.
pub record AddAsks (t : Table) (m : Memory) (vacant : List ℕ) (x : ℕ) (o : List ℕ) : Type 0 where
  pub offered : Offered t m x
  pub flags : Flags vacant m.slot_row
  pub rows : o ≡ outline_rows t x

-- The state left is scope's with one more cell. The answer is the number of pairs that cancelled: so many pairs of slots are free again.
pub record Added (t : Table) (m : Memory) (x pairs : ℕ) (m' : Memory) (vacant' : List ℕ) : Type 0 where
  pub left : m' ≡ taking t m x
  pub free : length (free_slots m') + length (outline_rows t x) ≡ length (free_slots m) + 2 * pairs
  pub flags : Flags vacant' m'.slot_row
