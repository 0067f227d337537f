-- The tests of refusal 10, over numbers: scope's `table_agrees`, `places_agree` and the others are these of the slices' lengths.
-- Assumes nothing.
use Rattle.std.specs.Prelude.{ℕ, Bool, ◌&&◌, eqb, leb}

abbrev pub both_agree : ℕ → ℕ → ℕ → Bool
both_agree n a b = eqb a n && eqb b n

abbrev pub three_agree : ℕ → ℕ → ℕ → ℕ → Bool
three_agree n a b c = eqb a n && eqb b n && eqb c n

abbrev pub capacities_in : ℕ → ℕ → Bool
capacities_in slots places = leb 1 slots && leb slots 65536 && leb 1 places && leb places 16384
