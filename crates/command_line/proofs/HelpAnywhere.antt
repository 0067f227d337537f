-- --help counts wherever it stands, also behind a word that cannot be taken.
--     unless_keeps, words_keep     what stands and what each word keeps, all words keep
--     help_anywhere                a command line with --help among its words comes to help, for every tool
-- Assumes nothing.
use Prim.Native.Nat.{ℕ, suc}
use mathlib.Core.Path.{◌≡◌, refl}
use mathlib.Core.Bool.{Bool, true, false, cond}
use mathlib.Core.List.{List, [], ◌∷◌, ◌++◌}
use Rattle.std.specs.Prelude.{Option, Some, None, Err}
use Rattle.text.specs.Text.{ascii}
use Rattle.command_line.specs.declared.tools.Tool.{Tool}
use Rattle.command_line.specs.declared.words.Word.{Word}
use Rattle.command_line.specs.declared.words.Word.TheVariants.{Help, Rows, Mode, Even, Mixed, File}
use Rattle.command_line.specs.declared.line.Line.{Line}
use Rattle.command_line.specs.declared.line.Stop.TheVariants as stop
use Rattle.command_line.specs.Tools.{takes_many}
use Rattle.command_line.specs.Words.{option_of, word_of}
use Rattle.command_line.specs.Lines.{no_words, with_help, with_fault, beyond_table, file_behind, file_taken, mode_taken, word_taken, is_help, unless_faulty, known_taken, taken, line_from, line_of, status_of}

pub record Asked (o : Line) : Type 0 where
  pub asked : o.help ≡ true

either : (b : Bool) {x y : Line} → Asked x → Asked y → Asked (cond b x y)
either true p q = p
either false p q = q

mode_keeps : (o : Line) (k : ℕ) (w : Option Word) → Asked o → Asked (mode_taken o k w)
unfolding mode_taken
mode_keeps o k (Some Help) h = record { asked = h.asked }
mode_keeps o k (Some Rows) h = record { asked = h.asked }
mode_keeps o k (Some Mode) h = record { asked = h.asked }
mode_keeps o k (Some Even) h = record { asked = h.asked }
mode_keeps o k (Some Mixed) h = record { asked = h.asked }
mode_keeps o k (Some File) h = record { asked = h.asked }
mode_keeps o k None h = record { asked = h.asked }

list_keeps : (t : Tool) (o : Line) (k : ℕ) (list : Option ℕ) → Asked o → Asked (beyond_table t o k list)
list_keeps t o k None h = record { asked = h.asked }
list_keeps t o k (Some list) h = either (takes_many t) {x = o} {y = with_fault o k} h (record { asked = h.asked })

table_keeps : (t : Tool) (o : Line) (k : ℕ) (table : Option ℕ) → Asked o → Asked (file_behind t o k table)
table_keeps t o k None h = record { asked = h.asked }
table_keeps t o k (Some table) h = list_keeps t o k o.list h

file_keeps : (t : Tool) (o : Line) (k : ℕ) → Asked o → Asked (file_taken t o k)
unfolding file_taken
file_keeps t o k h = table_keeps t o k o.table h

word_keeps : (t : Tool) (o : Line) (k : ℕ) (w : Option Word) → Asked o → Asked (word_taken t o k w)
unfolding word_taken
word_keeps t o k (Some Help) h = record { asked = refl }
word_keeps t o k (Some Rows) h = record { asked = h.asked }
word_keeps t o k (Some Mode) h = record { asked = h.asked }
word_keeps t o k (Some Even) h = file_keeps t o k h
word_keeps t o k (Some Mixed) h = file_keeps t o k h
word_keeps t o k (Some File) h = file_keeps t o k h
word_keeps t o k None h = record { asked = h.asked }

pub unless_keeps : (P : Line → Type 0) (o r : Line) (fault : Option ℕ) → P o → P r → P (unless_faulty fault o r)
unless_keeps P o r None h g = g
unless_keeps P o r (Some k) h g = h

keeps : (t : Tool) (o : Line) (k : ℕ) (w : Option Word) → Asked o → Asked (known_taken t o k w)
unfolding known_taken
keeps t o k w h =
    either (is_help w) {x = with_help o} (record { asked = refl })
    (unless_keeps Asked o _ o.fault h (either o.mode_wanted (mode_keeps o k w h) (word_keeps t o k w h)))

pub words_keep : (P : Line → Type 0) (t : Tool) → ((o : Line) (k : ℕ) (w : Option Word) → P o → P (known_taken t o k w))
    → (k : ℕ) (o : Line) (ws : List (List ℕ)) → P o → P (line_from t k o ws)
unfolding line_from
words_keep P t keep k o [] h = h
words_keep P t keep k o (w ∷ ws) h = words_keep P t keep (suc k) (taken t o k w) ws (keep o k (word_of t w) h)

pub all_keep : (t : Tool) (k : ℕ) (o : Line) (ws : List (List ℕ)) → Asked o → Asked (line_from t k o ws)
all_keep t k o ws h = words_keep Asked t (keeps t) k o ws h

asks : (t : Tool) (o : Line) (k : ℕ) → Asked (taken t o k (ascii "--help"))
unfolding known_taken word_of option_of
asks t o k = record { asked = refl }

asked_from : (t : Tool) (k : ℕ) (o : Line) (ws vs : List (List ℕ)) → Asked (line_from t k o (ws ++ (ascii "--help" ∷ vs)))
unfolding line_from
asked_from t k o [] vs = all_keep t (suc k) (taken t o k (ascii "--help")) vs (asks t o k)
asked_from t k o (w ∷ ws) vs = asked_from t (suc k) (taken t o k w) ws vs

pub help_anywhere : (t : Tool) (ws vs : List (List ℕ)) → status_of (line_of t (ws ++ (ascii "--help" ∷ vs))) ≡ Err stop.Help
unfolding status_of
help_anywhere t ws vs = rw (asked_from t 1 no_words ws vs).asked refl
