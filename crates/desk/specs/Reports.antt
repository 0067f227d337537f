-- A report, as it can be printed: a text at the front of a slice. One that fills its slice may be cut off there; then that is said in its
-- place, with the name of the file that it is about.
--     report_in    what is to be said of a file, in a slice
-- Assumes nothing.
use Rattle.std.specs.Prelude.{ℕ, min, Bool, false, cond, List, ◌++◌, ltb, length, Result, Ok, Err}
use Rattle.std.proofs.lemmas.List.Edits.{sets}
use Rattle.text.specs.Text.{ascii, shown}

abbrev pub left_out_text : List ℕ → List ℕ
left_out_text name = shown name ++ ascii ": what there is to say of it is longer than the room for it, and is left out\n"

-- so many bytes that answer what was asked, or so many that say why not
abbrev pub Report : Type 0
Report = Result ℕ ℕ

abbrev pub report_of : Bool → ℕ → Report
report_of done size = cond done (Ok size) (Err size)

abbrev pub size_of : Report → ℕ
size_of (Ok size) = size
size_of (Err size) = size

-- a slice, and the report at its front
pub record Page : Type 0 where
  pub text : List ℕ
  pub report : Report

-- a text written from the front of a slice on, as far as it goes; whether it answers what was asked
abbrev pub written : List ℕ → List ℕ → Bool → Page
written slice text done = record { text = sets slice 0 text; report = report_of done (min (length text) (length slice)) }

-- the name of the file, and the report on it
unfoldable pub in_room : List ℕ → Page → Page
in_room name p = cond (ltb (size_of p.report) (length p.text)) p (written p.text (left_out_text name) false)

abbrev pub report_in : List ℕ → List ℕ → List ℕ → Bool → Page
report_in slice name text done = in_room name (written slice text done)
