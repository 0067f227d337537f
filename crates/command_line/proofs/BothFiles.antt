-- A tool goes on with both its files: in a line of words no list stands without a table.
--     both_named     where such a line is ready, the files that it hands on are the table and the list of its words
-- Assumes nothing.
use Prim.Native.Nat.{ℕ, zero, suc}
use mathlib.Core.Path.{◌≡◌, refl}
use mathlib.Core.Bool.{Bool, true, false, cond}
use mathlib.Core.List.{List}
use Rattle.std.specs.Prelude.{Option, Some, None, Ok, Err}
use Rattle.std.proofs.lemmas.Bool.{cond_both}
use Rattle.command_line.specs.declared.tools.Tool.{Tool}
use Rattle.command_line.specs.declared.words.Word.{Word}
use Rattle.command_line.specs.declared.words.Word.TheVariants.{Help, Rows, Mode, Even, Mixed, File}
use Rattle.command_line.specs.declared.line.Line.{Line}
use Rattle.command_line.specs.declared.line.Command.{Command}
use Rattle.command_line.specs.declared.line.Stop.TheVariants as stop
use Rattle.command_line.specs.Tools.{takes_many}
use Rattle.command_line.specs.Lines.{no_words, numbered, with_fault, beyond_table, file_behind, file_taken, mode_taken, word_taken, is_help, known_taken, line_of, with_files, unless_fault, status_of}
use Rattle.command_line.proofs.HelpAnywhere.{unless_keeps, words_keep}

-- no list, or a table
abbrev Behind : Option ℕ → Option ℕ → Type 0
Behind (Some table) list = Unit {0}
Behind None None = Unit {0}
Behind None (Some list) = ⊥

abbrev Named : Line → Type 0
Named o = Behind o.table o.list

-- ---- a word keeps it so

-- a table that is put where none was
table_put : (k : ℕ) (list : Option ℕ) → Behind None list → Behind (numbered k) list
table_put zero list h = h
table_put (suc k) list h = tt

module _ (t : Tool) (o : Line) (k : ℕ) (h : Named o) where
  beyond_names : (table : ℕ) (list : Option ℕ) → o.table ≡ Some table → Named (beyond_table t o k list)
  beyond_names table None e = rw e tt
  beyond_names table (Some list) e = cond_both (takes_many t) o (with_fault o k) Named (λ b. h) (λ b. h)

  behind_names : (table : Option ℕ) → o.table ≡ table → Named (file_behind t o k table)
  behind_names None e = table_put k o.list (rw e at h)
  behind_names (Some table) e = beyond_names table o.list e

  file_names : Named (file_taken t o k)
  unfolding file_taken
  file_names = behind_names o.table refl

  mode_names : (w : Option Word) → Named (mode_taken o k w)
  unfolding mode_taken
  mode_names (Some Help) = h
  mode_names (Some Rows) = h
  mode_names (Some Mode) = h
  mode_names (Some Even) = h
  mode_names (Some Mixed) = h
  mode_names (Some File) = h
  mode_names None = h

  word_names : (w : Option Word) → Named (word_taken t o k w)
  unfolding word_taken
  word_names (Some Help) = h
  word_names (Some Rows) = h
  word_names (Some Mode) = h
  word_names (Some Even) = file_names
  word_names (Some Mixed) = file_names
  word_names (Some File) = file_names
  word_names None = h

names : (t : Tool) (o : Line) (k : ℕ) (w : Option Word) → Named o → Named (known_taken t o k w)
unfolding known_taken
names t o k w h =
    cond_both (is_help w) _ _ Named (λ b. h)
    (λ b. unless_keeps Named o _ o.fault h (cond_both o.mode_wanted _ _ Named (λ c. mode_names t o k h w) (λ c. word_names t o k h w)))

-- ---- so what is ready has both

ready : (o : Line) (help wanted : Bool) (fault table list : Option ℕ) (c : Command) → o.table ≡ table → o.list ≡ list → Behind table list
    → cond help (Err stop.Help) (unless_fault fault (cond wanted (Err stop.ModeWanted) (with_files o list))) ≡ Ok c → (o.table ≡ Some c.table) × (o.list ≡ Some c.list)
ready o true wanted fault table list c e f h q = cc
ready o false wanted (Some k) table list c e f h q = cc
ready o false true None table list c e f h q = cc
ready o false false None table None c e f h q = cc
ready o false false None None (Some list) c e f h q = absurd h
ready o false false None (Some table) (Some list) c e f h q = (cc, cc)

pub both_named : (t : Tool) (ws : List (List ℕ)) (c : Command) → status_of (line_of t ws) ≡ Ok c
    → ((line_of t ws).table ≡ Some c.table) × ((line_of t ws).list ≡ Some c.list)
unfolding status_of
both_named t ws c q =
    let o = line_of t ws in
    let named = words_keep Named t (names t) 1 no_words ws tt in
    ready o o.help o.mode_wanted o.fault o.table o.list c refl refl named q
