-- What the promise of `read_if` allows is one outcome.
-- Assumes nothing.
use mathlib.Core.Path.{◌≡◌, sym, ◌∙◌, ap}
use Rattle.scope.specs.Answers.{Answer, Verdict}
use Rattle.scope.specs.Table.{Table}
use Rattle.scope.specs.Memory.{Memory, Output}
use Rattle.scope.specs.Calls.{Reading}
use Rattle.reading.specs.Reading.{reading_if}

pub read_determined : (v : Verdict) (t : Table) (m : Memory) (o : Output) {left left' : Memory} {out out' : Output} {a a' : Answer}
    → record { answer = a; left = left; out = out } ≡ reading_if v t m o → record { answer = a'; left = left'; out = out' } ≡ reading_if v t m o → (a ≡ a') × (left ≡ left') × (out ≡ out')
read_determined v t m o p q = let e = p ∙ sym q in (ap (λ (r : Reading). r.answer) e, ap (λ (r : Reading). r.left) e, ap (λ (r : Reading). r.out) e)
