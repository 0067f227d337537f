-- till_import has no options, so that a command line of it which is ready is files alone: its lists are all words behind the table.
--     files_alone     every word of such a line names a file
-- Assumes nothing.
use Prim.Native.Nat.{ℕ, suc}
use mathlib.Core.Path.{◌≡◌, refl}
use mathlib.Core.Bool.{Bool, true, false, ◌&&◌, cond}
use mathlib.Core.List.{List, [], ◌∷◌}
use Rattle.std.specs.Prelude.{Option, Some, None, Result, Ok, Err, bytes_eq}
use Rattle.scope.proofs.Tests.{and_both}
use Rattle.text.specs.Text.{ascii}
use Rattle.command_line.specs.declared.tools.Tool.{Tool}
use Rattle.command_line.specs.declared.tools.Tool.TheVariants.{TillImport}
use Rattle.command_line.specs.declared.words.Word.{Word}
use Rattle.command_line.specs.declared.words.Word.TheVariants.{Help, Rows, Mode, Even, Mixed, File}
use Rattle.command_line.specs.declared.line.Line.{Line}
use Rattle.command_line.specs.declared.line.Command.{Command}
use Rattle.command_line.specs.declared.line.Stop.{Stop}
use Rattle.command_line.specs.declared.line.Stop.TheVariants as stop
use Rattle.command_line.specs.Words.{option_of, name_of, begins_as_option, fits, word_of}
use Rattle.command_line.specs.Lines.{no_words, with_help, with_fault, mode_taken, word_taken, is_help, unless_faulty, known_taken, taken, line_from, line_of, unless_fault, status_of}
use Rattle.command_line.proofs.HelpAnywhere.{Asked, words_keep, all_keep}

-- ---- what the words of till_import can mean

abbrev is_option : Option Word → Bool
is_option (Some Help) = false
is_option (Some Rows) = true
is_option (Some Mode) = true
is_option (Some Even) = false
is_option (Some Mixed) = false
is_option (Some File) = false
is_option None = false

abbrev pub is_file : Option Word → Bool
is_file (Some Help) = false
is_file (Some Rows) = false
is_file (Some Mode) = false
is_file (Some Even) = true
is_file (Some Mixed) = true
is_file (Some File) = true
is_file None = false

plain : (b h f e m : Bool) → is_option (cond b (cond h (Some Help) None) (cond f (Some (cond e Even (cond m Mixed File))) None)) ≡ false
plain true true f e m = refl
plain true false f e m = refl
plain false h true true m = refl
plain false h true false true = refl
plain false h true false false = refl
plain false h false e m = refl

no_option : (s : List ℕ) → is_option (word_of TillImport s) ≡ false
unfolding word_of option_of name_of
no_option s = plain (begins_as_option s) (bytes_eq s (ascii "--help")) (fits s) (bytes_eq s (ascii "even")) (bytes_eq s (ascii "mixed"))

-- ---- a word that cannot be taken is never forgotten

record Faulty (o : Line) : Type 0 where
  word : ℕ
  faulty : o.fault ≡ Some word

either : (b : Bool) {x y : Line} → Faulty x → Faulty y → Faulty (cond b x y)
either true p q = p
either false p q = q

stays : (o r : Line) (fault : Option ℕ) (k : ℕ) → o.fault ≡ Some k → fault ≡ Some k → Faulty (unless_faulty fault o r)
stays o r None k e h = cc
stays o r (Some j) k e h = record { word = k; faulty = e }

fault_keeps : (t : Tool) (o : Line) (k : ℕ) (w : Option Word) → Faulty o → Faulty (known_taken t o k w)
unfolding known_taken
fault_keeps t o k w h =
    either (is_help w) {x = with_help o} (record { word = h.word; faulty = h.faulty })
    (stays o (cond o.mode_wanted (mode_taken o k w) (word_taken t o k w)) o.fault h.word h.faulty h.faulty)

faults_keep : (t : Tool) (k : ℕ) (o : Line) (ws : List (List ℕ)) → Faulty o → Faulty (line_from t k o ws)
faults_keep t k o ws h = words_keep Faulty t (fault_keeps t) k o ws h

over : (o : Line) (k : ℕ) → Faulty (with_fault o (suc k))
over o k = record { word = suc k; faulty = refl }

bad_by : (o : Line) (k : ℕ) (fault : Option ℕ) → o.fault ≡ fault → Faulty (unless_faulty fault o (cond o.mode_wanted (with_fault o (suc k)) (with_fault o (suc k))))
bad_by o k None e = either o.mode_wanted {x = with_fault o (suc k)} {y = with_fault o (suc k)} (over o k) (over o k)
bad_by o k (Some j) e = record { word = j; faulty = e }

bad_faults : (t : Tool) (o : Line) (k : ℕ) → Faulty (known_taken t o (suc k) None)
unfolding known_taken mode_taken word_taken
bad_faults t o k = bad_by o k o.fault refl

-- ---- what is ready has no such word, and does not ask for help

unready : (h : Bool) (fault : Option ℕ) (k : ℕ) (r : Result Command Stop) (c : Command) → fault ≡ Some k → cond h (Err stop.Help) (unless_fault fault r) ≡ Ok c → false ≡ true
unready true fault k r c e q = cc
unready false None k r c e q = cc
unready false (Some j) k r c e q = cc

fault_unready : (o : Line) (c : Command) → Faulty o → status_of o ≡ Ok c → false ≡ true
unfolding status_of
fault_unready o c h q = unready o.help o.fault h.word _ c h.faulty q

asked_by : (h : Bool) (r : Result Command Stop) (c : Command) → h ≡ true → cond h (Err stop.Help) r ≡ Ok c → false ≡ true
asked_by true r c e q = cc
asked_by false r c e q = e

asked_unready : (o : Line) (c : Command) → Asked o → status_of o ≡ Ok c → false ≡ true
unfolding status_of
asked_unready o c h q = asked_by o.help _ c h.asked q

-- ---- so every word is a file

names : (o : Line) (k : ℕ) (v : Option Word) (ws : List (List ℕ)) (c : Command) → is_option v ≡ false
    → status_of (line_from TillImport (suc (suc k)) (known_taken TillImport o (suc k) v) ws) ≡ Ok c → is_file v ≡ true
unfolding known_taken
names o k (Some Help) ws c h q = asked_unready _ c (all_keep TillImport (suc (suc k)) (with_help o) ws (record { asked = refl })) q
names o k (Some Rows) ws c h q = cc
names o k (Some Mode) ws c h q = cc
names o k (Some Even) ws c h q = refl
names o k (Some Mixed) ws c h q = refl
names o k (Some File) ws c h q = refl
names o k None ws c h q = fault_unready _ c (faults_keep TillImport (suc (suc k)) _ ws (bad_faults TillImport o k)) q

unfoldable pub all_files : List (List ℕ) → Bool
all_files [] = true
all_files (w ∷ ws) = is_file (word_of TillImport w) && all_files ws

files_from : (k : ℕ) (o : Line) (ws : List (List ℕ)) (c : Command) → status_of (line_from TillImport (suc k) o ws) ≡ Ok c → all_files ws ≡ true
unfolding line_from all_files
files_from k o [] c q = refl
files_from k o (w ∷ ws) c q =
    and_both (is_file (word_of TillImport w)) (all_files ws) (names o k (word_of TillImport w) ws c (no_option w) q)
    (files_from (suc k) (taken TillImport o (suc k) w) ws c q)

pub files_alone : (ws : List (List ℕ)) (c : Command) → status_of (line_of TillImport ws) ≡ Ok c → all_files ws ≡ true
files_alone ws c q = files_from 0 no_words ws c q
