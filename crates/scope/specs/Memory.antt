-- The lent memory of a standing state: document 01, "Standing edges, rings, groups", capacity, and refusal 10 of "Numbered refusals".
-- A slot's row and a row's slot are stored plus one, 0 for none, so that cleared memory with a mode is a newly opened state.
-- Assumes nothing.
use Rattle.std.specs.Prelude.{ℕ, ◌-◌, Bool, true, false, ◌&&◌, not, cond, List, [], ◌∷◌, eqb, leb, Float, length, take}
use Rattle.scope.specs.Lists.{at, zeros}
use Rattle.scope.specs.Table.{Table, row_count}

pub record Memory : Type 0 where
  -- mode, number of held cells
  pub head : List ℕ
  -- for each place: the held cells in the order of their acceptance, their parents and ranks, marks
  pub cells : List ℕ
  pub parent : List ℕ
  pub rank : List ℕ
  pub cell_mark : List ℕ
  -- for each slot: its row plus one, the place of the cell that gave the edge, the slots before and after it in the ring
  pub slot_row : List ℕ
  pub slot_cell : List ℕ
  pub prev : List ℕ
  pub next : List ℕ
  -- for each row: its slot plus one, marks
  pub row_slot : List ℕ
  pub row_mark : List ℕ

abbrev pub memory : List ℕ → List ℕ → List ℕ → List ℕ → List ℕ → List ℕ → List ℕ → List ℕ → List ℕ → List ℕ → List ℕ → Memory
memory head cells parent rank cell_mark slot_row slot_cell prev next row_slot row_mark = record {
  head = head;
  cells = cells;
  parent = parent;
  rank = rank;
  cell_mark = cell_mark;
  slot_row = slot_row;
  slot_cell = slot_cell;
  prev = prev;
  next = next;
  row_slot = row_slot;
  row_mark = row_mark;
}

-- The lent outputs: the ring list as a slice for each field of its records, and the edge list.
pub record Output : Type 0 where
  pub start : List ℕ
  pub size : List ℕ
  pub group : List ℕ
  pub area : List Float
  pub edges : List ℕ

abbrev pub output : List ℕ → List ℕ → List ℕ → List Float → List ℕ → Output
output start size group area edges = record { start = start; size = size; group = group; area = area; edges = edges }

-- ---- reading a state

abbrev pub kept_mode : Memory → ℕ
kept_mode m = at m.head 0

abbrev pub held : Memory → ℕ
held m = at m.head 1

abbrev pub held_cells : Memory → List ℕ
held_cells m = take (held m) m.cells

abbrev pub places : Memory → ℕ
places m = length m.cells

abbrev pub slots : Memory → ℕ
slots m = length m.slot_row

abbrev pub is_used : Memory → ℕ → Bool
is_used m s = not (eqb (at m.slot_row s) 0)

-- the row of a used slot, and the slot of a row that has one
abbrev pub row_in : Memory → ℕ → ℕ
row_in m s = at m.slot_row s - 1

abbrev pub has_slot : Memory → ℕ → Bool
has_slot m r = not (eqb (at m.row_slot r) 0)

abbrev pub slot_of : Memory → ℕ → ℕ
slot_of m r = at m.row_slot r - 1

-- ---- newly opened

-- Modes: 0 even, 1 mixed, 2 names none and means even; the state keeps 0 or 1.
abbrev pub kept : ℕ → ℕ
kept mode = cond (eqb mode 1) 1 0

-- A newly opened state: the mode, no cell, everything else cleared.
unfoldable pub opened : ℕ → Memory → Memory
opened mode m = memory (kept mode ∷ 0 ∷ []) (zeros m.cells) (zeros m.parent) (zeros m.rank) (zeros m.cell_mark)
    (zeros m.slot_row) (zeros m.slot_cell) (zeros m.prev) (zeros m.next) (zeros m.row_slot) (zeros m.row_mark)

-- ---- 10 unless the slices agree in length, each capacity is in its range and the mode is at most 2

abbrev pub table_agrees : Table → Bool
table_agrees t = eqb (length t.reverse) (row_count t) && eqb (length t.area) (row_count t)

abbrev pub places_agree : Memory → Bool
places_agree m = eqb (length m.parent) (places m) && eqb (length m.rank) (places m) && eqb (length m.cell_mark) (places m)

abbrev pub slots_agree : Memory → Bool
slots_agree m = eqb (length m.slot_cell) (slots m) && eqb (length m.prev) (slots m) && eqb (length m.next) (slots m)

abbrev pub rows_agree : Table → Memory → Bool
rows_agree t m = eqb (length m.row_slot) (row_count t) && eqb (length m.row_mark) (row_count t)

-- Capacity: pool of 1 to 65,536 slots, 1 to 16,384 cells.
abbrev pub capacities_fit : Memory → Bool
capacities_fit m = leb 1 (slots m) && leb (slots m) 65536 && leb 1 (places m) && leb (places m) 16384

unfoldable pub lengths_fit : Table → Memory → Bool
lengths_fit t m = table_agrees t && eqb (length m.head) 2 && places_agree m && slots_agree m && rows_agree t m && capacities_fit m

abbrev pub outputs_agree : Output → Bool
outputs_agree o = eqb (length o.size) (length o.start) && eqb (length o.group) (length o.start) && eqb (length o.area) (length o.start)

abbrev pub mode_fits : ℕ → Bool
mode_fits mode = leb mode 2
