-- The summary of what is read out, and what is told of it.
-- Assumes nothing.
use Rattle.std.specs.Prelude.{ℕ, ◌≡◌, List, [], ◌∷◌}
use Rattle.scope.specs.Answers.{Answer, kind_of, verdict_of, polygons_of, rings_of, if_accepted}
use Rattle.scope.specs.Bytes.{area_bits, result_of}

-- Kind (0 nothing, 1 closed, 2 outline), polygons, rings, bits of the first outer area.
abbrev pub summary_of : Answer → List ℕ
summary_of r = kind_of r ∷ polygons_of r ∷ rings_of r ∷ area_bits r ∷ []

-- Of an answer and the summary lent: this result, and this summary left, as it was where the answer is a refusal.
abbrev pub Tells : Answer → List ℕ → ℕ → List ℕ → Type 0
Tells answer summary result left = (result ≡ result_of (verdict_of answer)) × (left ≡ if_accepted (verdict_of answer) (summary_of answer) summary)
