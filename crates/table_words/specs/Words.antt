-- A table's fault as one line, and what the check of a table tells.
-- Assumes nothing.
use Rattle.std.specs.Prelude.{ℕ, ◌*◌, ◌≡◌, List, [], ◌++◌, Result, Ok, Err, is_ok}
use Rattle.scope.specs.Answers.{Verdict, refusal_number, refusal_index, is_accepted}
use Rattle.scope.specs.Table.{Table}
use Rattle.edge_table.specs.Checks.{checked}
use Rattle.text.specs.Text.{ascii, shown, Wrote}
use Rattle.note_text.specs.Notes.{noted}
use Rattle.table_words.specs.declared.rules.WholeFault.{WholeFault}
use Rattle.table_words.specs.declared.rules.WholeFault.TheVariants as whole
use Rattle.table_words.specs.declared.rules.RowFault.{RowFault}
use Rattle.table_words.specs.declared.rules.RowFault.TheVariants as row
use Rattle.table_words.specs.declared.rules.Fault.{Fault}
use Rattle.table_words.specs.declared.rules.Fault.TheVariants as fault
use Rattle.table_words.specs.Faults.{fault_of}

unfoldable pub whole_words : WholeFault → List ℕ
whole_words whole.Lengths = ascii "its columns are of unequal lengths"
whole_words whole.TooFew = ascii "the table has fewer than 2 rows"
whole_words whole.TooMany = ascii "the table has more than 65536 rows"
whole_words whole.Resolutions = ascii "its edges are of unequal resolutions"

unfoldable pub row_words : RowFault → List ℕ
row_words row.NoEdge = ascii "this row is no valid edge"
row_words row.NotAbove = ascii "this row is not above the one before it"
row_words row.PastEnd = ascii "its reverse row is past the end of the table"
row_words row.Itself = ascii "its reverse row is the row itself"
row_words row.NotBack = ascii "its reverse row does not name it back"
row_words row.NotFinite = ascii "its area term is not finite"

unfoldable pub fault_words : Fault → List ℕ
fault_words (fault.Whole f) = whole_words f
fault_words (fault.Row f) = row_words f

-- the row and its first byte: the first is row 0, and each has 20 bytes
abbrev pub row_place : ℕ → List ℕ
row_place index = noted (ascii " row ") index (ascii "") ++ noted (ascii ", byte ") (20 * index) (ascii ": ")

-- where a row has the fault, that row
unfoldable pub fault_place : Fault → ℕ → List ℕ
fault_place (fault.Whole f) index = ascii ": "
fault_place (fault.Row f) index = row_place index

unfoldable pub fault_text : List ℕ → ℕ → ℕ → Fault → List ℕ
fault_text name number index f = shown name ++ fault_place f index ++ noted (ascii "refused ") number (ascii ", ") ++ fault_words f ++ ascii "\n"

-- where no rule is broken, a row that breaks none; the check of a table points at no such row
abbrev pub told_text : List ℕ → ℕ → ℕ → Result (Unit {0}) Fault → List ℕ
told_text name number index (Err f) = fault_text name number index f
told_text name number index (Ok sound) = shown name ++ row_place index ++ noted (ascii "refused ") number (ascii ", ") ++ ascii "this row breaks no rule" ++ ascii "\n"

-- nothing where the table keeps the rules
unfoldable pub table_text : List ℕ → Table → Verdict → List ℕ
table_text name t (Ok done) = []
table_text name t (Err why) = told_text name (refusal_number why) (refusal_index why) (fault_of t (refusal_index why))

-- how long the line is
abbrev pub told_size : Result (Unit {0}) ℕ → ℕ
told_size (Ok passes) = 0
told_size (Err size) = size

-- The table's name, the table, the text before and after.
pub record TableTold (name : List ℕ) (t : Table) (before after : List ℕ) (r : Result (Unit {0}) ℕ) : Type 0 where
  pub text : Wrote before 0 after (told_size r) (table_text name t (checked t))
  pub passes : is_ok r ≡ is_accepted (checked t)
