-- What arrays for a state and for an output hold, as `scope` has it, and the sizes that they have room for.
-- Assumes nothing.
use Rattle.std.specs.Prelude.{◌≡◌, ◌≤◌, ℕ, length, replicate, take}
use Rattle.scope.specs.Area.{positive_zero}
use Rattle.scope.specs.Memory.{Memory, Output, memory, output}
use Rattle.lent.specs.declared.arrays.Sizes.{Sizes}
use Rattle.lent.specs.declared.arrays.StateArrays.{StateArrays}
use Rattle.lent.specs.declared.arrays.OutputArrays.{OutputArrays}

abbrev pub columns_of : {rows slots places : ℕ} → StateArrays rows slots places → Memory
columns_of a = memory a.head a.cells a.parent a.rank a.cell_mark a.slot_row a.slot_cell a.prev a.next a.row_slot a.row_mark

abbrev pub outputs_of : {rings edges : ℕ} → OutputArrays rings edges → Output
outputs_of a = output a.start a.size a.group a.area a.edges

-- cleared outputs for so many rings and edges
abbrev pub outputs_within : ℕ → ℕ → Output
outputs_within rings edges = output (replicate rings 0) (replicate rings 0) (replicate rings 0) (replicate rings positive_zero) (replicate edges 0)

-- the sizes fit into arrays of so many rows, slots and places
pub record Few (s : Sizes) (most_rows most_slots most_places : ℕ) : Type 0 where
  pub rows : s.rows ≤ most_rows
  pub slots : s.slots ≤ most_slots
  pub places : s.places ≤ most_places

-- the first rows, slots and places of a memory's columns
abbrev pub first_of : Sizes → Memory → Memory
first_of s m = memory m.head (take s.places m.cells) (take s.places m.parent) (take s.places m.rank) (take s.places m.cell_mark)
    (take s.slots m.slot_row) (take s.slots m.slot_cell) (take s.slots m.prev) (take s.slots m.next) (take s.rows m.row_slot) (take s.rows m.row_mark)

-- the columns of a memory are as long as these sizes say
pub record HasSizes (s : Sizes) (m : Memory) : Type 0 where
  pub head : length m.head ≡ 2
  pub cells : length m.cells ≡ s.places
  pub parent : length m.parent ≡ s.places
  pub rank : length m.rank ≡ s.places
  pub cell_mark : length m.cell_mark ≡ s.places
  pub slot_row : length m.slot_row ≡ s.slots
  pub slot_cell : length m.slot_cell ≡ s.slots
  pub prev : length m.prev ≡ s.slots
  pub next : length m.next ≡ s.slots
  pub row_slot : length m.row_slot ≡ s.rows
  pub row_mark : length m.row_mark ≡ s.rows
