-- The kinds of worked example. ExampleTest says when an example holds.
-- Assumes nothing.
use Prim.Native.Nat.{ℕ}
use mathlib.Core.List.{List, []}
use Rattle.scope.specs.Table.{Table}

-- Cells offered one after the other to a state newly opened, in lent memory of so many slots and places; and a ring list and an edge list of
-- so many records and rows to read it out.
pub record Offers : Type 0 where
  pub table : Table
  pub mode : ℕ
  pub slots : ℕ
  pub places : ℕ
  pub records : ℕ
  pub rows : ℕ
  pub cells : List ℕ

abbrev pub in_mode : ℕ → Table → ℕ → ℕ → ℕ → ℕ → List ℕ → Offers
in_mode mode t slots places records rows cs = record {
  table = t;
  mode = mode;
  slots = slots;
  places = places;
  records = records;
  rows = rows;
  cells = cs;
}

abbrev pub even : Table → ℕ → ℕ → ℕ → ℕ → List ℕ → Offers
even = in_mode 0

-- What read out and dissolve answer and write: a refusal and its index, or 0; the kind of answer and the polygon count; of each ring of the ring
-- list its lowest row, its length, its group and the bits of its area.
pub record Shown : Type 0 where
  pub refusal : ℕ
  pub index : ℕ
  pub kind : ℕ
  pub polygons : ℕ
  pub lowest : List ℕ
  pub lengths : List ℕ
  pub groups : List ℕ
  pub areas : List ℕ

-- an answer without rings
abbrev pub plain : ℕ → ℕ → ℕ → Shown
plain number index kind = record { refusal = number; index = index; kind = kind; polygons = 0; lowest = []; lengths = []; groups = []; areas = [] }

abbrev pub nothing : Shown
nothing = plain 0 0 0

abbrev pub closed : Shown
closed = plain 0 0 1

abbrev pub refused : ℕ → ℕ → Shown
refused number index = plain number index 3

abbrev pub outlined : ℕ → List ℕ → List ℕ → List ℕ → List ℕ → Shown
outlined polygons lowest lengths groups areas = record {
  refusal = 0;
  index = 0;
  kind = 2;
  polygons = polygons;
  lowest = lowest;
  lengths = lengths;
  groups = groups;
  areas = areas;
}

-- The slices of a state.
pub data Slice : Type 0 where
  head : Slice
  cells : Slice
  parent : Slice
  rank : Slice
  cell_mark : Slice
  slot_row : Slice
  slot_cell : Slice
  prev : Slice
  next : Slice
  row_slot : Slice
  row_mark : Slice

-- One number of a state is another.
pub record Change : Type 0 where
  pub slice : Slice
  pub place : ℕ
  pub value : ℕ

abbrev pub put : Slice → ℕ → ℕ → Change
put slice place value = record { slice = slice; place = place; value = value }

pub data Example : Type 0 where
  -- These numbers are valid cells, or valid edges, and those are not.
  valid_cells : (valid invalid : List ℕ) → Example
  valid_edges : (valid invalid : List ℕ) → Example
  -- Of the cells of resolution 0, by their base cells, these have no edge 1.
  pentagons : (bases : List ℕ) → Example
  -- These cells lie under a cell, and those do not.
  nests : (cell : ℕ) → (under beside : List ℕ) → Example
  -- The outline of a cell at a target has so many edges; it begins so, each edge by its digits past the cell and its edge number; and
  -- its first edge is this number.
  walks : (cell target count : ℕ) → (begins first : List ℕ) → Example
  -- The adder given these terms answers this number, all by their bits.
  adds : (terms : List ℕ) → (answer : ℕ) → Example
  -- These areas, by their bits, are each below the next; and those are equal.
  compares : (ascending equal : List ℕ) → Example
  -- Find: the root, and the parents that it leaves.
  finds : (parents : List ℕ) → (place root : ℕ) → (left : List ℕ) → Example
  -- Worked out afresh: the lengths of the rings of these cells, by lowest row; and the groups of the cells at these places.
  surrounds : (table : Table) → (cells lengths places groups : List ℕ) → Example
  -- A table may have so many rows, and may not have so many.
  row_counts : (fit unfit : List ℕ) → Example
  -- Opening: the refusal and its index, and the mode that the memory then holds.
  opens : (table : Table) → (slots places mode refusal index kept : ℕ) → Example
  -- With one number less in a slice of the memory every call refuses it, and with one record less in the lengths, the groups or the areas of the
  -- ring list reading out and dissolving do: 10.
  shortens : (table : Table) → (slots places : ℕ) → (slice : Slice) → Example
  misfits : (run : Offers) → Example
  -- Offers: the last answer's refusal and index; the parents and ranks that they leave.
  offers : (run : Offers) → (refusal index : ℕ) → Example
  unites : (run : Offers) → (parents ranks : List ℕ) → Example
  -- One more offer, or one to memory that was never opened: refused so, and the memory is as it was.
  refuses : (run : Offers) → (cell refusal index : ℕ) → Example
  intrudes : (table : Table) → (slots places cell refusal index : ℕ) → Example
  -- Read out after offers, and after a change of the state that they leave. The rows of each ring are those of a ring worked out afresh; the
  -- state is as it was, and so is what lies past the written part.
  reads : (run : Offers) → (shown : Shown) → Example
  breaks : (run : Offers) → (changes : List Change) → (refusal : ℕ) → Example
  -- Dissolve in memory that holds anything. It leaves what the offers leave; refused, a newly opened state.
  dissolves : (run : Offers) → (shown : Shown) → Example
  -- Dissolve refused before it opens the memory: memory and outputs are as they were.
  rejects : (run : Offers) → (refusal index : ℕ) → Example
  -- A list's checks, and those of one cell against the cells that are held.
  lists : (mode target capacity : ℕ) → (cells : List ℕ) → (refusal index : ℕ) → Example
  joins : (mode target capacity : ℕ) → (held : List ℕ) → (cell refusal index : ℕ) → Example
