-- An area's decimal: written where its parts are a number of 64 bits, and left out where they are not.
-- Assumes nothing.
use Rattle.std.proofs.Common.{◌≡◌, Bool, true, false, cond, ◌&&◌, [], ◌++◌, refl, ap, ◌∙◌}
use lib.Ieee.{Float, nan, binary64, div, of_bits, neg, lt, to_unsigned}
use Rattle.scope.proofs.Tests.{and_both}
use Rattle.text.specs.Text.{ascii}
use Rattle.note_text.specs.Notes.{pointed, scaled, area_decimal}

module _ (x : Float) where
  pub area_whole : lt (neg (of_bits binary64 0x3ff0000000000000)) (scaled x) ≡ true → lt (scaled x) (of_bits binary64 0x43f0000000000000) ≡ true
      → area_decimal x ≡ pointed (to_unsigned 64 (scaled x)) ++ ascii " "
  unfolding area_decimal
  area_whole p q = ap (λ (t : Bool). cond t (pointed (to_unsigned 64 (scaled x)) ++ ascii " ") []) (and_both _ _ p q)

  pub area_low : lt (neg (of_bits binary64 0x3ff0000000000000)) (scaled x) ≡ false → area_decimal x ≡ []
  unfolding area_decimal
  area_low p = ap (λ (t : Bool). cond (t && lt (scaled x) (of_bits binary64 0x43f0000000000000)) (pointed (to_unsigned 64 (scaled x)) ++ ascii " ") []) p

  pub area_high : lt (neg (of_bits binary64 0x3ff0000000000000)) (scaled x) ≡ true → lt (scaled x) (of_bits binary64 0x43f0000000000000) ≡ false → area_decimal x ≡ []
  unfolding area_decimal
  area_high p q = ap (λ (t : Bool). cond (t && lt (scaled x) (of_bits binary64 0x43f0000000000000)) (pointed (to_unsigned 64 (scaled x)) ++ ascii " ") []) p
      ∙ ap (λ (t : Bool). cond t (pointed (to_unsigned 64 (scaled x)) ++ ascii " ") []) q

pub zero_by_zero : div binary64 (of_bits binary64 0) (of_bits binary64 0) ≡ nan
unfolding div of_bits
zero_by_zero = refl
