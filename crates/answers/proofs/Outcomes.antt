-- An outcome by its verdict: carried out, or refused with nothing changed.
-- Assumes nothing.
use mathlib.Core.Path.{◌≡◌, refl}
use mathlib.Core.Bool.{true, false}
use Rattle.std.specs.Prelude.{Err, Ok}
use Rattle.scope.specs.Answers.{is_accepted, Verdict}
use Rattle.scope.specs.Memory.{Memory, Output}
use Rattle.scope.specs.Calls.{outcome, Reading, reading}
use Rattle.scope.proofs.Verdicts.{accepted}
use Rattle.answers.specs.Refusals.{refusal_in}

pub carried_out : (v : Verdict) (after before : Memory) {left : Memory} → is_accepted v ≡ true → left ≡ after → record { answer = v; left = left } ≡ outcome v after before
carried_out v after before e q = rw (accepted v e, q)

pub turned_down : (v : Verdict) (after before : Memory) → is_accepted v ≡ false → record { answer = v; left = before } ≡ outcome v after before
turned_down (Ok done) after before e = cc
turned_down (Err why) after before e = refl

-- the same of a reading, whatever further test would follow
pub refused_reading : (v : Verdict) (done : Reading) (m : Memory) (o : Output) → is_accepted v ≡ false → record { answer = refusal_in v; left = m; out = o } ≡ reading v done m o
unfolding refusal_in
refused_reading (Ok _) done m o e = cc
refused_reading (Err why) done m o e = refl
