-- Numerals, digit by digit.
--     shrinks                        what is left of a number once its last digit is gone is smaller
--     numeral_short, numeral_long    a numeral of one digit, and of more
-- Assumes nothing.
use Prim.Native.Nat.{ℕ, zero, suc, ◌+◌, ◌-◌, ◌/◌, ◌%◌, ◌≤◌, ◌<◌}
use mathlib.Core.Path.{◌≡◌, refl, sym, ◌∙◌, ap}
use mathlib.Core.Bool.{Bool, true, false, ◌&&◌, cond}
use mathlib.Core.List.{List, [], ◌∷◌, ◌++◌}
use mathlib.Core.Logic.{⊎_elim}
use native.Mathlib.Nat.{div-lt_self, div-le_self}
use native.Mathlib.Omega.{arith}
use borrow.Author.Tests.{lt-ltb, le-leb, ltb-false, leb-false}
use lib.Dec.{ltb, leb}
use Rattle.scope.proofs.Tests.{either, and_both, clash}
use Rattle.text.specs.Text.{glyph, numeral_in, numeral}

-- one digit is enough
abbrev pub is_short : ℕ → ℕ → ℕ → Bool
is_short base least n = ltb n base && leb least 1

pub shrinks : (base least n : ℕ) → 2 ≤ base → is_short base least n ≡ false → n / base + (least - 1) < n + least
shrinks base least n h e = ⊎_elim
    (λ s. ⊎_elim (λ l. absurd (clash (and_both (ltb n base) (leb least 1) s l) e)) (λ l. omega (arith, div-le_self n base, leb-false least 1 l)) (either (leb least 1)))
    (λ s. let g = ltb-false n base s in omega (arith, div-lt_self {n = n} {k = base} (let z : 0 < n = omega arith in z) (let z : 1 < base = omega arith in z)))
    (either (ltb n base))

-- no fuel is needed for nothing
none : (base least n : ℕ) → 2 ≤ base → n + least ≤ 0 → is_short base least n ≡ true
none base least n h p = and_both (ltb n base) (leb least 1) (lt-ltb n base (omega arith)) (le-leb least 1 (omega arith))

-- more fuel changes nothing
module _ (base : ℕ) (h : 2 ≤ base) where
  pub fuelled : (f g least n : ℕ) → n + least ≤ f → n + least ≤ g → numeral_in f base least n ≡ numeral_in g base least n
  unfolding numeral_in
  fuelled zero zero least n p q = refl
  fuelled zero (suc g) least n p q = ap (λ (t : Bool). cond t [] (numeral_in g base (least - 1) (n / base)) ++ (glyph (n % base) ∷ [])) (sym (none base least n h p))
  fuelled (suc f) zero least n p q = ap (λ (t : Bool). cond t [] (numeral_in f base (least - 1) (n / base)) ++ (glyph (n % base) ∷ [])) (none base least n h q)
  fuelled (suc f) (suc g) least n p q = ⊎_elim
      (λ e. ap (λ (t : Bool). cond t [] (numeral_in f base (least - 1) (n / base)) ++ (glyph (n % base) ∷ [])) e
      ∙ ap (λ (t : Bool). cond t [] (numeral_in g base (least - 1) (n / base)) ++ (glyph (n % base) ∷ [])) (sym e))
      (λ e. let s = shrinks base least n h e in
      ap (λ (l : List ℕ). cond (is_short base least n) [] l ++ (glyph (n % base) ∷ [])) (fuelled f g (least - 1) (n / base) (omega arith) (omega arith)))
      (either (is_short base least n))

  module _ (least n : ℕ) where
    pub numeral_short : is_short base least n ≡ true → numeral base least n ≡ glyph (n % base) ∷ []
    unfolding numeral numeral_in
    numeral_short e = fuelled (n + least) (suc (n + least)) least n (omega arith) (omega arith)
        ∙ ap (λ (t : Bool). cond t [] (numeral_in (n + least) base (least - 1) (n / base)) ++ (glyph (n % base) ∷ [])) e

    pub numeral_long : is_short base least n ≡ false → numeral base least n ≡ numeral base (least - 1) (n / base) ++ (glyph (n % base) ∷ [])
    unfolding numeral numeral_in
    numeral_long e = let s = shrinks base least n h e in
        fuelled (n + least) (suc (n + least)) least n (omega arith) (omega arith)
        ∙ ap (λ (t : Bool). cond t [] (numeral_in (n + least) base (least - 1) (n / base)) ++ (glyph (n % base) ∷ [])) e
        ∙ ap (λ (l : List ℕ). l ++ (glyph (n % base) ∷ [])) (fuelled (n + least) (n / base + (least - 1)) (least - 1) (n / base) (omega arith) (omega arith))
