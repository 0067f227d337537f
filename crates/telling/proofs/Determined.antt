-- What the promise of `tell` allows is one outcome: the result, and the summary.
-- Assumes nothing.
use Prim.Native.Nat.{ℕ}
use mathlib.Core.Path.{◌≡◌, sym, ◌∙◌}
use mathlib.Core.List.{List}
use Rattle.scope.specs.Answers.{Answer}
use Rattle.telling.specs.Summary.{Tells}

pub tells_one : (answer : Answer) (summary : List ℕ) {r r' : ℕ} {s s' : List ℕ} → Tells answer summary r s → Tells answer summary r' s' → (r ≡ r') × (s ≡ s')
tells_one answer summary p q = (p.0 ∙ sym q.0, p.1 ∙ sym q.1)
