-- Numerals and names that compute.
-- Assumes nothing.
use mathlib.Core.Path.{◌≡◌, refl}
use mathlib.Core.List.{[], ◌∷◌, ◌++◌}
use Rattle.text.specs.Text.{ascii, shown, numeral_in, numeral, decimal, hexadecimal}

decimals : decimal 0 ++ decimal 9 ++ decimal 10 ++ decimal 65536 ≡ ascii "091065536"
unfolding numeral_in numeral
decimals = refl

padded : numeral 10 5 42 ≡ ascii "00042"
unfolding numeral_in numeral
padded = refl

edge : hexadecimal 0x13001fffffffffff ≡ ascii "13001fffffffffff"
unfolding numeral_in numeral
edge = refl

-- a line end, a blank, byte 127, and a letter beyond ASCII, whose two bytes stay
two_lines : shown (ascii "a\nb c" ++ (127 ∷ 195 ∷ 164 ∷ [])) ≡ ascii "a?b c?" ++ (195 ∷ 164 ∷ [])
unfolding shown
two_lines = refl
