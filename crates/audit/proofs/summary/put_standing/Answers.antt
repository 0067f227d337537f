-- `audit::summary/put_standing` meets its contract. By the answer.
-- Assumes nothing.
use mathlib.Core.Path.{◌≡◌, ◌∙◌, ap}
use Rattle.std.specs.Prelude.{Ok}
use Rattle.scope.specs.declared.ReadOut.{ReadOut}
use Rattle.scope.specs.Answers.{Answer}
use Rattle.audit.specs.Summary.{standing_text}
use Rattle.audit.proofs.summary.put_standing.Goals as goal

answered : {a : Answer} {r s : ReadOut} → ◌≡◌ {A = Answer} a (Ok r) → r ≡ s → ◌≡◌ {A = Answer} a (Ok s)
answered e f = e ∙ ap {A = ReadOut} {B = Answer} (λ x. Ok x) f

pub returns-in-Ok-Nothing : goal.returns-in-Ok-Nothing
unfolding standing_text
returns-in-Ok-Nothing c = rw (answered c.in-Ok-Nothing.is (rw c.in-Ok-Nothing.is at c.in-Ok-Nothing.field-0-is)) c.put_bytes.ensures

pub returns-in-Ok-Closed : goal.returns-in-Ok-Closed
unfolding standing_text
returns-in-Ok-Closed c = rw (answered c.in-Ok-Closed.is (rw c.in-Ok-Closed.is at c.in-Ok-Closed.field-0-is)) c.put_bytes-in-Ok-Closed.ensures
