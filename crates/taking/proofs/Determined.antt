-- What the promise of `take_all` allows is one outcome.
-- Assumes nothing.
use mathlib.Core.Path.{◌≡◌, sym, ◌∙◌, ap}
use mathlib.Core.List.{List}
use Prim.Native.Nat.{ℕ}
use Rattle.scope.specs.Answers.{Verdict}
use Rattle.scope.specs.Table.{Table}
use Rattle.scope.specs.Memory.{Memory}
use Rattle.scope.specs.Calls.{Outcome}
use Rattle.taking.specs.Taking.{TakesAll}

pub takes_determined : {t : Table} {m : Memory} {cs : List ℕ} {v w : Verdict} {m₁ m₂ : Memory} → TakesAll t m cs v m₁ → TakesAll t m cs w m₂ → (v ≡ w) × (m₁ ≡ m₂)
takes_determined A B = let e = A.done ∙ sym B.done in (ap (λ (o : Outcome). o.answer) e, ap (λ (o : Outcome). o.left) e)
