-- What the promise of `summarise` allows is one outcome. The other promises of this crate are equations as they stand.
-- Assumes nothing.
use Rattle.scope.specs.Answers.{Answer}
use mathlib.Core.Path.{◌≡◌, sym, ◌∙◌}
use Rattle.answer_numbers.specs.declared.Summary.{Summary}
use Rattle.answer_numbers.specs.Sums.{Sums}

pub sums_one : (a : Answer) {r r' : Summary} → Sums a r → Sums a r' → r ≡ r'
sums_one a p q = λ i. record {
  kind = (p.0 ∙ sym q.0) i;
  polygons = (p.1 ∙ sym q.1) i;
  rings = (p.2 ∙ sym q.2) i;
  area = (p.3 ∙ sym q.3) i;
}
