-- Document 01, "Area and order": the adder, a ring's area, and how areas compare.
-- Assumes nothing.
use Rattle.std.specs.Prelude.{Bool, true, false, cond, List, [], ◌∷◌, Float}
use Rattle.std.specs.Float.{nan, inf, fin, binary64}
use Rattle.std.specs.Float.Ieee.{add, sub, lt, le, of_bits}

-- The area adder is two floats, sum and correction.
pub record Adder : Type 0 where
  pub sum : Float
  pub correction : Float

abbrev pub adder : Float → Float → Adder
adder s c = record { sum = s; correction = c }

abbrev pub positive_zero : Float
positive_zero = of_bits binary64 0

abbrev pub no_terms : Adder
no_terms = adder positive_zero positive_zero

-- The operations of FloatAdder, one rounding each.
abbrev pub added : Adder → Float → Adder
added a value =
    let y = sub binary64 value a.correction in
    let t = add binary64 a.sum y in
    record { sum = t; correction = sub binary64 (sub binary64 t a.sum) y }

-- Reading it is sum + correction.
abbrev pub value_of : Adder → Float
value_of a = add binary64 a.sum a.correction

-- The f64 of 4π, bits 402921FB54442D18 (hexadecimal).
abbrev pub four_pi : Float
four_pi = of_bits binary64 0x402921FB54442D18

unfoldable pub add_all : Adder → List Float → Adder
add_all a [] = a
add_all a (x ∷ l) = add_all (added a x) l

-- If sum + correction is below 0 it adds the f64 of 4π. Its area is sum + correction.
abbrev pub closing : Adder → Float
closing a = cond (lt (value_of a) positive_zero) (value_of (added a four_pi)) (value_of a)

-- The area of a ring whose terms, from its lowest row on, are these.
abbrev pub area_of : List Float → Float
area_of l = closing (add_all no_terms l)

-- Areas compare as OrderedFloat: zeros equal, NaN equal to itself and above all. Here: x is no larger than y.
unfoldable pub area_le : Float → Float → Bool
area_le nan nan = true
area_le nan (inf t) = false
area_le nan (fin t n d) = false
area_le (inf s) nan = true
area_le (inf s) (inf t) = le (inf s) (inf t)
area_le (inf s) (fin t n d) = le (inf s) (fin t n d)
area_le (fin s m e) nan = true
area_le (fin s m e) (inf t) = le (fin s m e) (inf t)
area_le (fin s m e) (fin t n d) = le (fin s m e) (fin t n d)
