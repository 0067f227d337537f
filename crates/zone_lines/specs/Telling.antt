-- What is told of a zone: its lines where there is room for them, by whether they are an answer or a refusal. Lines that would fill the
-- room are not told, since they may be cut off there.
-- Assumes nothing.
use Rattle.std.specs.Prelude.{ℕ, ◌≡◌, Bool, cond, List, ltb, length, Result, Ok, Err, is_ok}
use Rattle.std.proofs.lemmas.List.Edits.{sets}
use Rattle.scope.specs.Answers.{Answer}
use Rattle.scope.specs.Memory.{Output}
use Rattle.zone_lines.specs.declared.Untold.{Untold}
use Rattle.zone_lines.specs.declared.Untold.TheVariants.{Refused, TooLong}
use Rattle.zone_lines.specs.Zones.{zone_text}

abbrev pub Told : Type 0
Told = Result ℕ Untold

-- so many bytes in a room, of a call that was carried out or refused
unfoldable pub told_by : ℕ → ℕ → Bool → Told
told_by size room done = cond (ltb size room) (cond done (Ok size) (Err (Refused size))) (Err TooLong)

-- The names of the two files; how many cells, and their lines; the table's edges; the answer and what was read out; the slice before and after.
pub record Tells (table list : List ℕ) (cells : ℕ) (lines edges : List ℕ) (answer : Answer) (o : Output) (before after : List ℕ) (told : Told) : Type 0 where
  pub bytes : after ≡ sets before 0 (zone_text table list cells lines edges answer o)
  pub answered : told ≡ told_by (length (zone_text table list cells lines edges answer o)) (length before) (is_ok answer)
