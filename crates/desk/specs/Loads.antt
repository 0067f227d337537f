-- What the tools load: what `table_bytes` and `cell_text` make of the bytes that came from a file. Which bytes came no contract can say; but the
-- buffer that they came by still holds them in front, so that all else is told by them and by what was there.
-- Assumes nothing.
use Rattle.std.specs.Prelude.{ℕ, min, ◌≡◌, List, [], length, take, Option, Some, None}
use Rattle.std.proofs.lemmas.List.Edits.{sets}
use Rattle.scope.specs.Table.{Table}
use Rattle.std.specs.Result.{result_ok}
use Rattle.cell_text.specs.Lines.{Reading, answered, cells_of}
use Rattle.table_bytes.specs.Files.{file_of, room_of, table_after}

-- how many rows or cells were loaded, where any were
abbrev pub Loaded : Type 0
Loaded = Option ℕ

abbrev pub count_of : Loaded → ℕ
count_of (Some n) = n
count_of None = 0

-- ---- a file

-- All bytes of a file, or none, since it cannot be read or is too long.
pub data Came : Type 0 where
  whole : List ℕ → Came
  none : Came

abbrev pub bytes_of : Came → List ℕ
bytes_of (whole b) = b
bytes_of none = []

-- the bytes that came stand in front of the buffer
abbrev pub InFront : Came → List ℕ → Type 0
InFront came text = bytes_of came ≡ take (length (bytes_of came)) text

-- ---- a table

pub record TableLoad : Type 0 where
  pub answer : Loaded
  pub left : Table

-- The rows of the file over the start of the slices, and how many; where none came, one is cut off, or they find no room, nothing is changed.
unfoldable pub table_loaded : Came → Table → TableLoad
table_loaded (whole b) t = record { answer = result_ok (file_of (room_of t) b); left = table_after b t }
table_loaded none t = record { answer = None; left = t }

-- what `load_table` promises of the buffer, the answer and the slices at exit
pub record LoadsTable (text : List ℕ) (t : Table) (r : Loaded) (t' : Table) : Type 0 where
  pub came : Came
  pub front : InFront came text
  pub loads : record { answer = r; left = t' } ≡ table_loaded came t

-- ---- a list

pub record CellLoad : Type 0 where
  pub answer : Loaded
  pub cells : List ℕ
  pub lines : List ℕ

abbrev pub read_into : Reading → List ℕ → List ℕ → CellLoad
read_into r cells lines =
    record { answer = result_ok (answered r.end (length r.cells)); cells = sets cells 0 r.cells; lines = sets lines 0 r.numbers }

-- The cells of the file over the start of the slices, with their lines, and how many; up to a fault, of which no count is told. Where nothing
-- came, nothing is changed.
unfoldable pub list_loaded : Came → List ℕ → List ℕ → CellLoad
list_loaded (whole b) cells lines = read_into (cells_of (min (length cells) (length lines)) b) cells lines
list_loaded none cells lines = record { answer = None; cells = cells; lines = lines }

-- what `load_cells` promises of the buffer, the answer and the slices at exit
pub record LoadsCells (text cells lines : List ℕ) (r : Loaded) (cells' lines' : List ℕ) : Type 0 where
  pub came : Came
  pub front : InFront came text
  pub loads : record { answer = r; cells = cells'; lines = lines' } ≡ list_loaded came cells lines
