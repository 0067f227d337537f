-- Lines that compute: a refused list, and a zone of one ring.
-- Assumes nothing.
use mathlib.Core.Path.{◌≡◌, refl}
use mathlib.Core.List.{[], ◌∷◌}
use lib.Ieee.{Float, binary64, of_bits, to_bits, neg, lt, mul, to_unsigned}
use Rattle.scope.specs.declared.Refusal.TheVariants.{DuplicateInput}
use Rattle.std.specs.Prelude.{Err, Ok}
use Rattle.scope.specs.declared.ReadOut.TheVariants.{Outline}
use Rattle.scope.specs.Answers.{refusal_number, refusal_index}
use Rattle.scope.specs.Bytes.{joined}
use Rattle.scope.specs.Memory.{output}
use Rattle.text.specs.Text.{ascii, shown, numeral_in, numeral}
use Rattle.note_text.specs.Notes.{area_decimal}
use Rattle.refusal_text.specs.Refusals.{refusal_words, refusal_place, refusal_text}
use Rattle.ring_lines.specs.Rings.{edge_word, ring_name, ring_line}
use Rattle.zone_lines.specs.Zones.{counts_text, read_out_text, zone_text}

replay : zone_text (ascii "city.table") (ascii "shop.cells") 3 (2 ∷ 3 ∷ 7 ∷ []) [] (Err (DuplicateInput 2)) (output [] [] [] [] [])
    ≡ ascii "shop.cells line 7: refused 3, this cell is there already, or lies under another\n"
unfolding shown zone_text refusal_number refusal_index refusal_text refusal_place refusal_words numeral_in numeral
replay = refl

half : Float
half = of_bits binary64 0x3fe0000000000000

whole : zone_text (ascii "city.table") (ascii "shop.cells") 1 (2 ∷ []) (0x11 ∷ 0x12 ∷ []) (Ok (Outline 1 1 half)) (output (0 ∷ []) (2 ∷ []) (0 ∷ []) (half ∷ []) (0 ∷ 1 ∷ []))
    ≡ ascii "shop.cells: outline, cells 1, polygons 1, rings 1, standing edges 2, first outer area 0.500000000000000 (bits 3fe0000000000000)\nouter ring of group 0, area 0.500000000000000 (bits 3fe0000000000000), edges 2: 0000000000000011 0000000000000012\n"
unfolding shown zone_text read_out_text counts_text ring_line ring_name edge_word joined area_decimal numeral_in numeral half of_bits to_bits neg lt mul to_unsigned
whole = refl
