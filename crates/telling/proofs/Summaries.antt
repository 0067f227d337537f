-- The four numbers of an answer are its summary.
-- Assumes nothing.
use mathlib.Core.Path.{◌≡◌}
use mathlib.Core.List.{[], ◌∷◌}
use Rattle.scope.specs.Answers.{Answer}
use Rattle.answer_numbers.specs.declared.Summary.{Summary}
use Rattle.answer_numbers.specs.Sums.{Sums}
use Rattle.telling.specs.Summary.{summary_of}

pub summary_is : (answer : Answer) {s : Summary} → Sums answer s → s.kind ∷ s.polygons ∷ s.rings ∷ s.area ∷ [] ≡ summary_of answer
summary_is answer e = rw (e.0, e.1, e.2, e.3)
