-- Placing an outline, by the lists that it changes: slot rows, slot cells, row slots, and the links.
-- Assumes nothing.
use Rattle.std.specs.Prelude.{◌≡◌, not, List, map, ℕ, suc, ◌-◌, ◌≤◌, ◌<◌, ◌^◌, length, take, replicate}
use Rattle.scope.specs.Lists.{at, below, rotate, put_all}
use Rattle.free_slots.specs.Search.{used_in, Flags}

-- `free_in` are scope's `free_slots` of a state with these slot rows, `slots_in` its `slots_for`.
abbrev pub free_in : List ℕ → List ℕ
free_in slot_row = below (λ s. not (used_in slot_row s)) (length slot_row)

abbrev pub slots_in : List ℕ → List ℕ → List ℕ
slots_in slot_row o = take (length o) (free_in slot_row)

-- The outline's rows are in the table, enough slots are free, and flagged as such. The rest are sizes that fit.
pub record PlaceAsks (slot_row slot_cell row_slot vacant o : List ℕ) (n : ℕ) : Type 0 where
  pub in_table : (i : ℕ) → i < length o → at o i < length row_slot
  pub enough : length o ≤ length (free_in slot_row)
  pub flags : Flags vacant slot_row
  pub even : length slot_cell ≡ length slot_row
  pub slots_fit : length slot_row < 2 ^ 32
  pub rows_fit : length row_slot < 2 ^ 32
  pub cells_fit : n < 2 ^ 32

pub record PlacedRows (slot_row slot_cell row_slot o : List ℕ) (n : ℕ) (slotRow' slotCell' rowSlot' vacant' : List ℕ) : Type 0 where
  pub rows : slotRow' ≡ put_all (slots_in slot_row o) (map suc o) slot_row
  pub cells : slotCell' ≡ put_all (slots_in slot_row o) (replicate (length o) n) slot_cell
  pub slots : rowSlot' ≡ put_all o (map suc (slots_in slot_row o)) row_slot
  pub flags : Flags vacant' slotRow'

-- The slots of rows that have one.
abbrev pub slots_at : List ℕ → List ℕ → List ℕ
slots_at row_slot o = map (λ r. at row_slot r - 1) o

pub record SlotAsks (row_slot o : List ℕ) (i : ℕ) : Type 0 where
  pub within : i < length o
  pub in_table : at o i < length row_slot
  pub has_slot : 0 < at row_slot (at o i)

-- The rows have slots, in the range of the links. The rest are sizes that fit.
pub record LinkAsks (prev next row_slot o : List ℕ) : Type 0 where
  pub in_table : (i : ℕ) → i < length o → at o i < length row_slot
  pub have_slots : (i : ℕ) → i < length o → 0 < at row_slot (at o i)
  pub in_pool : (i : ℕ) → i < length o → at row_slot (at o i) ≤ length next
  pub even : length prev ≡ length next
  pub fits : length next < 2 ^ 32

-- Each row's slot is linked to the slot of the row after it, the last one's to the first one's.
pub record LinkedRows (prev next row_slot o prev' next' : List ℕ) : Type 0 where
  pub nexts : next' ≡ put_all (slots_at row_slot o) (rotate (slots_at row_slot o)) next
  pub prevs : prev' ≡ put_all (rotate (slots_at row_slot o)) (slots_at row_slot o) prev
