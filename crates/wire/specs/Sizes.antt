-- The sizes of decoded tables and states: a slice for each column, as long as the number of its rows, slots or places.
-- Assumes nothing.
use Rattle.std.specs.Prelude.{ℕ, ◌≡◌, List, length}
use Rattle.scope.specs.Table.{Table}
use Rattle.scope.specs.Memory.{Memory, places, slots}
use Rattle.scope.specs.Bytes.{state_size, state_in}

pub record TableSized (rows : ℕ) (t : Table) : Type 0 where
  pub edges : length t.edges ≡ rows
  pub reverse : length t.reverse ≡ rows
  pub area : length t.area ≡ rows

-- as many rows as have a slot number
abbrev pub rows : Memory → ℕ
rows m = length m.row_slot

-- A whole state, as long as its bytes.
pub record StateRoom (bytes : List ℕ) (m : Memory) : Type 0 where
  pub whole : length bytes ≡ state_size (rows m) (slots m) (places m)
  pub head : length m.head ≡ 2
  pub parent : length m.parent ≡ places m
  pub rank : length m.rank ≡ places m
  pub cell_mark : length m.cell_mark ≡ places m
  pub slot_cell : length m.slot_cell ≡ slots m
  pub prev : length m.prev ≡ slots m
  pub next : length m.next ≡ slots m
  pub row_mark : length m.row_mark ≡ rows m

-- The state of the bytes, in columns as long as those of m.
abbrev pub state_like : Memory → List ℕ → Memory
state_like m bytes = state_in (rows m) (slots m) (places m) bytes
