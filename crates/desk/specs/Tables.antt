-- What is said of a table's check: nothing where the table keeps the rules, else the one line that says which it breaks. And what is loaded of a
-- table that has to keep them.
-- Assumes nothing.
use Rattle.std.specs.Prelude.{ℕ, ◌≡◌, cond, List, take, Some, None}
use Rattle.scope.specs.Answers.{is_accepted}
use Rattle.scope.specs.Table.{Table, table}
use Rattle.edge_table.specs.Checks.{checked}
use Rattle.table_words.specs.Words.{table_text}
use Rattle.desk.specs.Loads.{Loaded, LoadsTable}
use Rattle.desk.specs.Reports.{Page, report_in}

-- the table of this name, in a slice, as it can be printed
abbrev pub table_in : List ℕ → List ℕ → Table → Page
table_in slice name t = report_in slice name (table_text name t (checked t)) (is_accepted (checked t))

abbrev pub first_rows : ℕ → Table → Table
first_rows n t = table (take n t.edges) (take n t.reverse) (take n t.area)

-- what was loaded into the slices, where it keeps the rules
abbrev pub sound_of : Loaded → Table → Loaded
sound_of (Some n) t = cond (is_accepted (checked (first_rows n t))) (Some n) None
sound_of None t = None

-- what `load_sound_table` promises: of what `load_table` loads, none where a rule is broken
pub record LoadsSound (text : List ℕ) (t : Table) (r : Loaded) (t' : Table) : Type 0 where
  pub loaded : Loaded
  pub loads : LoadsTable text t loaded t'
  pub sound : r ≡ sound_of loaded t'
