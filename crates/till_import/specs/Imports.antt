-- What the import of a zone leaves: the outputs as dissolve leaves them, and what it answered told.
-- Assumes nothing.
use Rattle.std.specs.Prelude.{ℕ, ◌≡◌, List, Ok, Err, is_ok}
use Rattle.scope.specs.declared.Refusal.{Refusal}
use Rattle.scope.specs.Memory.{Output}
use Rattle.desk.specs.Reports.{Report, Page, report_in}
use Rattle.zone_lines.specs.declared.Untold.TheVariants.{Refused, TooLong}
use Rattle.zone_lines.specs.Zones.{zone_text}
use Rattle.zone_lines.specs.Telling.{Told, Tells}
use Rattle.full_size.specs.Drawing.{Drawn}

-- Mode 2 names none.
abbrev pub no_mode : ℕ
no_mode = 2

-- The names of the two files; how many cells, and their lines; the table's edges; what dissolve comes to; the outputs left; the text before and after.
pub record Imported (table list : List ℕ) (cells : ℕ) (lines edges : List ℕ) (zone : Drawn) (output : Output) (before after : List ℕ) (told : Told) : Type 0 where
  pub out : output ≡ zone.out
  pub tells : Tells table list cells lines edges zone.answer zone.out before after told

-- what was told in a room, as a report
abbrev pub report_of : Told → ℕ → Report
report_of (Ok size) room = Ok size
report_of (Err (Refused size)) room = Err size
report_of (Err TooLong) room = Err room

-- what is said of a zone in a slice, as it can be printed
abbrev pub zone_in : List ℕ → List ℕ → List ℕ → ℕ → List ℕ → List ℕ → Drawn → Page
zone_in slice table list cells lines edges zone = report_in slice list (zone_text table list cells lines edges zone.answer zone.out) (is_ok zone.answer)
