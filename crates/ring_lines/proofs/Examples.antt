-- Lines that compute: edges in ring order, a hole and an island.
-- Assumes nothing.
use mathlib.Core.Path.{◌≡◌, refl}
use mathlib.Core.List.{[], ◌∷◌}
use Rattle.scope.specs.Bytes.{joined}
use Rattle.text.specs.Text.{ascii, numeral_in, numeral}
use Rattle.ring_lines.specs.Rings.{edge_word, edge_words, ring_name}

ring_order : edge_words (0x11 ∷ 0x12 ∷ 0x13 ∷ []) (1 ∷ 2 ∷ 0 ∷ []) 1 2 ≡ ascii " 0000000000000013 0000000000000011"
unfolding joined edge_word numeral_in numeral
ring_order = refl

-- the second ring of group 4, and the first of group 0 behind it
hole : ring_name (4 ∷ 4 ∷ 0 ∷ []) 1 ≡ ascii "inner ring of group 4, area "
unfolding ring_name numeral_in numeral
hole = refl

island : ring_name (4 ∷ 4 ∷ 0 ∷ []) 2 ≡ ascii "outer ring of group 0, area "
unfolding ring_name numeral_in numeral
island = refl
