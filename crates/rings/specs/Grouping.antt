-- The group of each held cell, written to the marks in linear time, and of each ring.
-- Assumes nothing.
use Rattle.std.specs.Prelude.{ℕ, suc, ◌+◌, ◌-◌, ◌≤◌, ◌<◌, ◌≡◌, ◌≢◌, List, length}
use Rattle.scope.specs.Lists.{at}
use Rattle.scope.specs.Order.{group_of}
use Rattle.scope.proofs.Halving.{Forest}

-- parents of the held cells, as the rules have them, for some ranks
pub record Parents (parent : List ℕ) (held : ℕ) : Type 0 where
  pub ranks : List ℕ
  pub forest : Forest parent ranks held
  pub few : held ≤ 65536

-- the cells below p are marked with 1 more than their groups, and so are those above them on the way to the root; no other is marked
pub record GroupPass (parent mark : List ℕ) (held p : ℕ) : Type 0 where
  pub parents : Parents parent held
  pub space : held ≤ length mark
  pub done : (q : ℕ) → q < p → at mark q ≢ 0
  pub shut : (q : ℕ) → q < held → at mark q ≢ 0 → at mark (at parent q) ≢ 0
  pub good : (q : ℕ) → q < held → at mark q ≢ 0 → at mark q ≡ suc (group_of parent held q)

pub record PathReady (parent mark : List ℕ) (held p : ℕ) : Type 0 where
  pub pass : GroupPass parent mark held p
  pub low : p < held

pub record PaintReady (parent mark : List ℕ) (held p v : ℕ) : Type 0 where
  pub path : PathReady parent mark held p
  pub v_is : v ≡ suc (group_of parent held p)

pub record Painted (parent mark : List ℕ) (held p : ℕ) (mark' : List ℕ) : Type 0 where
  pub pass : GroupPass parent mark' held (p + 1)
  pub len : length mark' ≡ length mark

pub record GroupsReady (parent mark : List ℕ) (held : ℕ) : Type 0 where
  pub parents : Parents parent held
  pub space : held ≤ length mark
  pub clear : (q : ℕ) → at mark q ≡ 0

-- each held cell has 1 more than its group
pub record Grouped (parent mark : List ℕ) (held : ℕ) (mark' : List ℕ) : Type 0 where
  pub groups : (q : ℕ) → q < held → at mark' q ≡ suc (group_of parent held q)
  pub len : length mark' ≡ length mark

-- the cell of a row, and what stands for it in a list
abbrev pub cell_in : List ℕ → List ℕ → ℕ → ℕ
cell_in row_slot slot_cell r = at slot_cell (at row_slot r - 1)

pub record CellReady (row_slot slot_cell mark : List ℕ) (r : ℕ) : Type 0 where
  pub stands : at row_slot r ≢ 0
  pub slot-in : at row_slot r - 1 < length slot_cell
  pub cell_within : cell_in row_slot slot_cell r < length mark
  pub some : at mark (cell_in row_slot slot_cell r) ≢ 0

abbrev pub marked_group : List ℕ → List ℕ → List ℕ → ℕ → ℕ
marked_group row_slot slot_cell mark r = at mark (cell_in row_slot slot_cell r) - 1

pub record RingGroupsReady (row_slot slot_cell mark rows out : List ℕ) (n : ℕ) : Type 0 where
  pub rows_in : n ≤ length rows
  pub room : n ≤ length out
  pub cells : (i : ℕ) → i < n → CellReady row_slot slot_cell mark (at rows i)
