-- The four numbers of an answer.
-- Assumes nothing.
use Rattle.std.specs.Prelude.{◌≡◌}
use Rattle.scope.specs.Answers.{kind_of, polygons_of, rings_of, Answer}
use Rattle.scope.specs.Bytes.{area_bits}
use Rattle.answer_numbers.specs.declared.Summary.{Summary}

abbrev pub Sums : Answer → Summary → Type 0
Sums a s = (s.kind ≡ kind_of a) × (s.polygons ≡ polygons_of a) × (s.rings ≡ rings_of a) × (s.area ≡ area_bits a)
