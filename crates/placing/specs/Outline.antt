-- A cell held, and its outline placed and linked.
-- Assumes nothing.
use Rattle.std.specs.Prelude.{◌≡◌, List, map, ℕ, suc, ◌+◌, ◌<◌, ◌^◌, length, set, replicate}
use Rattle.scope.specs.Lists.{at, rotate, put_all}
use Rattle.scope.proofs.Members.{Fresh}
use Rattle.scope.proofs.Halving.{Forest}
use Rattle.free_slots.specs.Search.{Flags}
use Rattle.placing.specs.Place.{slots_in, PlaceAsks}

-- ---- the cell

pub record HoldAsks (head cells parent rank : List ℕ) : Type 0 where
  pub two : length head ≡ 2
  pub room : at head 1 < length cells
  pub forest : Forest parent rank (at head 1)
  pub even : length parent ≡ length cells
  pub fits : length cells < 2 ^ 32

-- The cell takes the next place, a group of its own.
pub record CellHeld (head cells parent rank : List ℕ) (x place : ℕ) (head' cells' parent' rank' : List ℕ) : Type 0 where
  pub place_is : place ≡ at head 1
  pub head_left : head' ≡ set head 1 (at head 1 + 1)
  pub cells_left : cells' ≡ set cells (at head 1) x
  pub parent_left : parent' ≡ set parent (at head 1) (at head 1)
  pub rank_left : rank' ≡ set rank (at head 1) 0

-- ---- its outline

pub record OutlineAsks (slot_row slot_cell prev next row_slot vacant o : List ℕ) (place : ℕ) : Type 0 where
  pub placing : PlaceAsks slot_row slot_cell row_slot vacant o place
  pub once : Fresh o
  pub even_prev : length prev ≡ length slot_row
  pub even_next : length next ≡ length slot_row

-- Its i-th edge is in the i-th lowest free slot, and linked to the edge after it; slots that are free are flagged as such.
pub record OutlinePlaced (slot_row slot_cell prev next row_slot o : List ℕ) (place : ℕ) (slotRow' slotCell' prev' next' rowSlot' vacant' : List ℕ) : Type 0 where
  pub rows : slotRow' ≡ put_all (slots_in slot_row o) (map suc o) slot_row
  pub cells : slotCell' ≡ put_all (slots_in slot_row o) (replicate (length o) place) slot_cell
  pub prevs : prev' ≡ put_all (rotate (slots_in slot_row o)) (slots_in slot_row o) prev
  pub nexts : next' ≡ put_all (slots_in slot_row o) (rotate (slots_in slot_row o)) next
  pub slots : rowSlot' ≡ put_all o (map suc (slots_in slot_row o)) row_slot
  pub flags : Flags vacant' slotRow'
