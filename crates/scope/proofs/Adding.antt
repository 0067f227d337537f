-- The adder: a ring's closing by cases, and what it answers to 1 and then 2^−53.
-- Assumes nothing.
use mathlib.Core.Path.{◌≡◌, refl, sym, ◌∙◌, ap}
use mathlib.Core.Bool.{Bool, true, false, cond}
use lib.Ieee.{Float, binary64, add, sub, lt, of_bits}
use Rattle.scope.specs.Area.{Adder, positive_zero, no_terms, added, value_of, four_pi, closing}

module _ (a : Adder) (v : Float) (read : v ≡ value_of a) where
  pub closing_below : lt v positive_zero ≡ true → closing a ≡ value_of (added a four_pi)
  closing_below t = ap (λ (b : Bool). cond b (value_of (added a four_pi)) (value_of a)) (ap (λ (x : Float). lt x positive_zero) (sym read) ∙ t)

  pub closing_plain : lt v positive_zero ≡ false → closing a ≡ v
  closing_plain t = ap (λ (b : Bool). cond b (value_of (added a four_pi)) (value_of a)) (ap (λ (x : Float). lt x positive_zero) (sym read) ∙ t) ∙ sym read

abbrev pub one : Float
one = of_bits binary64 0x3FF0000000000000

abbrev pub half_ulp : Float
half_ulp = of_bits binary64 0x3CA0000000000000

-- T10: 1 − 2^−53
pub adds_exactly : value_of (added (added no_terms one) half_ulp) ≡ of_bits binary64 0x3FEFFFFFFFFFFFFF
unfolding of_bits add sub
adds_exactly = refl
