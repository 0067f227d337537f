-- Files that cannot be taken, in words: the file, the line or byte, and what is wrong there.
-- Assumes nothing.
use Rattle.std.specs.Prelude.{ℕ, List, [], ◌++◌, Option, Some, None, Result, Ok, Err}
use Rattle.text.specs.Text.{ascii, shown}
use Rattle.files.specs.declared.Reason.{Reason}
use Rattle.files.specs.declared.Reason.TheVariants as reason
use Rattle.cell_words.specs.declared.Wrong.{Wrong}
use Rattle.cell_words.specs.declared.Wrong.TheVariants as wrong
use Rattle.files.specs.declared.FileError.{FileError}
use Rattle.files.specs.declared.FileError.TheVariants as file
use Rattle.cell_text.specs.declared.ListFault.{ListFault}
use Rattle.cell_text.specs.declared.ListFault.TheVariants as list
use Rattle.table_bytes.specs.declared.TableFault.{TableFault}
use Rattle.table_bytes.specs.declared.TableFault.TheVariants as table
use Rattle.note_text.specs.Notes.{noted}

-- by what the system says of the file
unfoldable pub unreadable_words : Reason → List ℕ
unreadable_words reason.Missing = ascii ": there is no such file\n"
unreadable_words reason.Directory = ascii ": this is a directory\n"
unreadable_words reason.Forbidden = ascii ": this file may not be read\n"
unreadable_words reason.Other = ascii ": this file cannot be read\n"

abbrev pub unreadable_text : List ℕ → Reason → List ℕ
unreadable_text name why = shown name ++ unreadable_words why

abbrev pub too_long_text : List ℕ → ℕ → List ℕ
too_long_text name room = shown name ++ noted (ascii " byte ") room (ascii ": this file is too long\n")

abbrev pub file_error_text : List ℕ → ℕ → FileError → List ℕ
file_error_text name room (file.Unreadable why) = unreadable_text name why
file_error_text name room file.TooLong = too_long_text name room

-- nothing where nothing is wrong
unfoldable pub table_fault_text : List ℕ → ℕ → Result ℕ TableFault → List ℕ
table_fault_text name room (Ok rows) = []
table_fault_text name room (Err (table.CutOff place)) = shown name ++ noted (ascii " byte ") place (ascii ": this row is cut off, a row has 20 bytes\n")
table_fault_text name room (Err (table.TooMany place)) =
    shown name ++ noted (ascii " byte ") place (ascii "") ++ noted (ascii ": this table has more than ") room (ascii " rows\n")

-- the byte of a line, and what is wrong there
unfoldable pub wrong_text : Wrong → List ℕ
wrong_text (wrong.Word place) = noted (ascii ", byte ") place (ascii ": a line has one cell, 1 to 16 hexadecimal digits, with or without 0x\n")
wrong_text (wrong.Return place) = noted (ascii ", byte ") place (ascii ": a carriage return inside a comment: lines end with LF\n")

unfoldable pub list_fault_text : List ℕ → ℕ → Option ListFault → List ℕ
list_fault_text name room None = []
list_fault_text name room (Some (list.Wrong line what)) = shown name ++ noted (ascii " line ") line (ascii "") ++ wrong_text what
list_fault_text name room (Some (list.TooMany line)) = shown name ++ noted (ascii " line ") line (ascii "") ++ noted (ascii ": there are more than ") room (ascii " cells\n")
