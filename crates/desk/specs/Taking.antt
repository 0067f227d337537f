-- What is taken of a file that was read, and the one line that is said where nothing is.
-- Assumes nothing.
use Rattle.std.specs.Prelude.{ℕ, min, ◌≡◌, List, length, take, Result, Ok, Err}
use Rattle.std.specs.Result.{result_ok}
use Rattle.scope.specs.Table.{Table}
use Rattle.text.specs.Text.{Wrote}
use Rattle.cell_text.specs.Lines.{cells_of}
use Rattle.table_bytes.specs.Files.{file_of, room_of}
use Rattle.report.specs.Faults.{file_error_text, table_fault_text, list_fault_text}
use Rattle.files.specs.declared.FileError.{FileError}
use Rattle.desk.specs.Loads.{Came, whole, none, table_loaded, list_loaded}

-- the bytes at the front of the buffer that the file was read into
abbrev pub came_of : Result ℕ FileError → List ℕ → Came
came_of (Ok n) text = whole (take n text)
came_of (Err error) text = none

-- how many rows or cells were taken, or how many bytes the complaint has
abbrev pub Taken : Type 0
Taken = Result ℕ ℕ

abbrev pub complaint_of : Taken → ℕ
complaint_of (Ok count) = 0
complaint_of (Err size) = size

-- ---- a table

-- what is wrong with its bytes, of the file at this path; nothing where nothing is
abbrev pub rows_complaint : List ℕ → List ℕ → Table → List ℕ
rows_complaint bytes path t = table_fault_text path (length t.edges) (file_of (room_of t) bytes)

unfoldable pub table_complaint : Result ℕ FileError → List ℕ → List ℕ → Table → List ℕ
table_complaint (Ok n) text path t = rows_complaint (take n text) path t
table_complaint (Err error) text path t = file_error_text path (length text) error

-- the bytes; the path; the slices, and the line for a complaint, before and after
pub record TakesRows (bytes path : List ℕ) (t : Table) (line line' : List ℕ) (r : Taken) (t' : Table) : Type 0 where
  pub loads : record { answer = result_ok r; left = t' } ≡ table_loaded (whole bytes) t
  pub says : Wrote line 0 line' (complaint_of r) (rows_complaint bytes path t)

-- the same of what came of reading the file
pub record TakesTable (read : Result ℕ FileError) (text path : List ℕ) (t : Table) (line line' : List ℕ) (r : Taken) (t' : Table) : Type 0 where
  pub loads : record { answer = result_ok r; left = t' } ≡ table_loaded (came_of read text) t
  pub says : Wrote line 0 line' (complaint_of r) (table_complaint read text path t)

-- ---- a list

abbrev pub cells_complaint : List ℕ → List ℕ → List ℕ → List ℕ → List ℕ
cells_complaint bytes path cells lines = list_fault_text path (length cells) (cells_of (min (length cells) (length lines)) bytes).end

unfoldable pub list_complaint : Result ℕ FileError → List ℕ → List ℕ → List ℕ → List ℕ → List ℕ
list_complaint (Ok n) text path cells lines = cells_complaint (take n text) path cells lines
list_complaint (Err error) text path cells lines = file_error_text path (length text) error

pub record TakesList (bytes path cells lines line line' : List ℕ) (r : Taken) (cells' lines' : List ℕ) : Type 0 where
  pub loads : record { answer = result_ok r; cells = cells'; lines = lines' } ≡ list_loaded (whole bytes) cells lines
  pub says : Wrote line 0 line' (complaint_of r) (cells_complaint bytes path cells lines)

pub record TakesCells (read : Result ℕ FileError) (text path cells lines line line' : List ℕ) (r : Taken) (cells' lines' : List ℕ) : Type 0 where
  pub loads : record { answer = result_ok r; cells = cells'; lines = lines' } ≡ list_loaded (came_of read text) cells lines
  pub says : Wrote line 0 line' (complaint_of r) (list_complaint read text path cells lines)
