-- Notes: a number between words, and an area, which is written as its bits, so that nothing is lost, behind a decimal that people can read.
-- Assumes nothing.
use Rattle.std.specs.Prelude.{ℕ, ◌/◌, ◌%◌, ◌^◌, Bool, cond, ◌&&◌, List, [], ◌++◌, from_bits, to_bits, Float}
use Rattle.std.specs.Float.{binary64}
use Rattle.std.specs.Float.Ieee.{neg, lt, mul, to_unsigned}
use Rattle.text.specs.Text.{ascii, numeral, decimal, hexadecimal}

abbrev pub noted : List ℕ → ℕ → List ℕ → List ℕ
noted before n after = before ++ decimal n ++ after

-- n of 10^15 parts, with fifteen digits behind the point
abbrev pub pointed : ℕ → List ℕ
pointed n = decimal (n / 10 ^ 15) ++ ascii "." ++ numeral 10 15 (n % 10 ^ 15)

-- x times the f64 of 10^15, rounded
abbrev pub scaled : Float → Float
scaled x = mul binary64 x (from_bits binary64 0x430c6bf526340000)

-- above −1 and below 2^64, the f64s of which these are the bits: then its whole part is a number of 64 bits
abbrev pub has_whole : Float → Bool
has_whole y = lt (neg (from_bits binary64 0x3ff0000000000000)) y && lt y (from_bits binary64 0x43f0000000000000)

-- The area, cut off behind fifteen digits where there is room for them, and its bits.
unfoldable pub area_decimal : Float → List ℕ
area_decimal x = let y = scaled x in cond (has_whole y) (pointed (to_unsigned 64 y) ++ ascii " ") []

abbrev pub area_text : Float → List ℕ
area_text x = area_decimal x ++ ascii "(bits " ++ hexadecimal (to_bits binary64 x) ++ ascii ")"
