-- Two outputs are the same: each slice as long as its fellow, and equal place for place, areas by their bits.
-- Outputs that were equal before two calls are compared whole, since what lies past the written part stays as it was.
-- Assumes nothing.
use Rattle.std.specs.Prelude.{ℕ, Bool, ◌&&◌, List, eqb, Float, length, get_or}
use Rattle.std.specs.Float.{binary64, nan}
use Rattle.std.specs.Float.Ieee.{to_bits}
use Rattle.scope.specs.Lists.{at, passes}
use Rattle.scope.specs.Answers.{kind_of, verdict_of, polygons_of, rings_of, is_accepted, Answer}
use Rattle.scope.specs.Bytes.{area_bits}
use Rattle.scope.specs.Memory.{Output}

abbrev pub same_at : List ℕ → List ℕ → ℕ → Bool
same_at a b i = eqb (at a i) (at b i)

unfoldable pub same_numbers : List ℕ → List ℕ → Bool
same_numbers a b = eqb (length a) (length b) && passes (same_at a b) (length a)

abbrev pub bits_at : List Float → ℕ → ℕ
bits_at a i = to_bits binary64 (get_or a i nan)

abbrev pub same_bits_at : List Float → List Float → ℕ → Bool
same_bits_at a b i = eqb (bits_at a i) (bits_at b i)

unfoldable pub same_areas : List Float → List Float → Bool
same_areas a b = eqb (length a) (length b) && passes (same_bits_at a b) (length a)

unfoldable pub same_output : Output → Output → Bool
same_output o p =
    same_numbers o.start p.start
    && same_numbers o.size p.size
    && same_numbers o.group p.group
    && same_areas o.area p.area
    && same_numbers o.edges p.edges

-- Both are carried out, and have the same kind, counts and first outer area. A refusal shows no outline, so it is the same as no other answer.
unfoldable pub same_answer : Answer → Answer → Bool
same_answer r s =
    is_accepted (verdict_of r)
    && is_accepted (verdict_of s)
    && eqb (kind_of r) (kind_of s)
    && eqb (polygons_of r) (polygons_of s)
    && eqb (rings_of r) (rings_of s)
    && eqb (area_bits r) (area_bits s)
