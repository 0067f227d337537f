-- The bytes of a table file: whole rows of 20 bytes, at most as many as there is room for.
-- Assumes nothing.
use Rattle.std.specs.Prelude.{ℕ, ◌-◌, ◌*◌, ◌%◌, min, ◌≡◌, Bool, ◌&&◌, cond, List, eqb, leb, length, Result, Ok, Err}
use Rattle.scope.specs.Table.{Table, table}
use Rattle.scope.specs.Calls.{over}
use Rattle.scope.specs.Bytes.{rows_in, table_in}
use Rattle.table_bytes.specs.declared.TableFault.{TableFault}
use Rattle.table_bytes.specs.declared.TableFault.TheVariants.{CutOff, TooMany}

-- whole rows, and room for them
abbrev pub table_fits : ℕ → List ℕ → Bool
table_fits room b = eqb (length b % 20) 0 && leb (rows_in b) room

-- The first fault: a row that is cut off, or the first that there is no room for, begins at the byte that is named, counted from 0.
unfoldable pub file_of : ℕ → List ℕ → Result ℕ TableFault
file_of room b = cond (leb (rows_in b) room) (cond (eqb (length b % 20) 0) (Ok (rows_in b)) (Err (CutOff (length b - length b % 20)))) (Err (TooMany (room * 20)))

-- the rows over the start of a table's slices
unfoldable pub over_table : Table → Table → Table
over_table new old = table (over new.edges old.edges) (over new.reverse old.reverse) (over new.area old.area)

abbrev pub room_of : Table → ℕ
room_of t = min (min (length t.edges) (length t.reverse)) (length t.area)

-- a table's slices after the bytes of a file: its rows where they fit, else what was there
abbrev pub table_after : List ℕ → Table → Table
table_after b t = cond (table_fits (room_of t) b) (over_table (table_in b) t) t

-- what the reader promises
pub record TableRead (b : List ℕ) (t : Table) (r : Result ℕ TableFault) (t' : Table) : Type 0 where
  pub answer : r ≡ file_of (room_of t) b
  pub left : t' ≡ table_after b t
