-- The fifteen digits at once: where x, x / 2 and x / 4 all have a one at a digit's lowest bit, the digit is 7. So one comparison
-- of words is the run of fifteen tests that says whether the digits fit the resolution.
--     digits_fit     that comparison is `all (digit_fits x) 15`
-- Assumes nothing.
use mathlib.Core.Path.{◌≡◌, refl, ◌∙◌, ap, sym}
use mathlib.Core.Bool.{Bool, true, false, cond, ◌&&◌}
use mathlib.Core.Logic.{⊎_elim}
use Prim.Native.Nat.{ℕ, zero, suc, ◌+◌, ◌-◌, ◌*◌, ◌/◌, ◌%◌, ◌^◌, ◌<◌, ◌≤◌, min}
use native.Mathlib.Nat.{div-one, zero-sub}
use native.Mathlib.Omega.{arith}
use lib.Bits.{bit_and, and_step, and_shr, and_block, and_mask, and_zero_r}
use lib.Pow.{shr-shr, field, mod-mod-pow}
use lib.Dec.{eqb, leb, ltb, lit<}
use borrow.Author.Tests.{eq-eqb, ne_eqb, lt-ltb, le-leb, lt-leb, eqb-true}
use Rattle.scope.specs.Lists.{all, first_bad, from}
use Rattle.scope.specs.Cells.{digit_fits, resolution_of}
use Rattle.scope.proofs.Scan.{passes_at}
use Rattle.scope.proofs.Tests.{same, and_left, and_right, and_both, le_or_lt, all_same}

-- n digits, each 1
unfoldable ones : ℕ → ℕ
ones zero = 0
ones (suc n) = ones n * 8 + 1

abbrev sevens : ℕ → ℕ → ℕ
sevens n y = bit_and (bit_and (bit_and y (y / 2)) (y / 4)) (ones n)

abbrev seven : ℕ → ℕ
seven d = cond (eqb d 7) 1 0

low_bit : (a b : ℕ) → bit_and a b % 2 ≡ min (a % 2) (b % 2)
low_bit a b = let e = and_step a b in omega arith

bits_agree : ℕ → Bool
bits_agree d = eqb (min (min (d % 2) (d / 2 % 2)) (d / 4 % 2)) (seven d)

bits_table : (d : ℕ) → d < 8 → min (min (d % 2) (d / 2 % 2)) (d / 4 % 2) ≡ seven d
unfolding first_bad from bits_agree
bits_table d h = eqb-true _ _ (passes_at bits_agree 8 refl d h)

bits : (y : ℕ) → min (min (y % 2) (y / 2 % 2)) (y / 4 % 2) ≡ seven (y % 8)
bits y =
    let a : y % 2 ≡ y % 8 % 2 = omega arith in
    let b : y / 2 % 2 ≡ y % 8 / 2 % 2 = rw (field y 2 1) (sym (mod-mod-pow (y / 2) 1 1)) in
    let d : y / 4 % 2 ≡ y % 8 / 4 % 2 = rw (field y 1 2) (sym (mod-mod-pow (y / 4) 0 1)) in
    rw (a, b, d) (bits_table (y % 8) (omega arith))

-- one digit more
step : (n y : ℕ) → sevens (suc n) y ≡ sevens n (y / 8) * 8 + seven (y % 8)
unfolding ones
step n y =
    let b : ℕ = bit_and (bit_and y (y / 2)) (y / 4) in
    let s : b ≡ b / 8 * 2 ^ 3 + b % 8 = omega arith in
    let h : bit_and (b / 8 * 2 ^ 3 + b % 8) (ones n * 2 ^ 3 + 1) ≡ bit_and (b / 8) (ones n) * 2 ^ 3 + bit_and (b % 8) 1 = and_block 3 (b / 8) (ones n) (b % 8) 1 (omega arith) (lit< tt) in
    let l : bit_and (b % 8) 1 ≡ b % 8 % 2 = and_mask (b % 8) 1 in
    let p : b % 2 ≡ seven (y % 8) = low_bit (bit_and y (y / 2)) (y / 4) ∙ ap (λ (k : ℕ). min k (y / 4 % 2)) (low_bit y (y / 2)) ∙ bits y in
    let m : b % 8 % 2 ≡ b % 2 = omega arith in
    let u : y / 2 / 8 ≡ y / 8 / 2 = omega arith in
    let v : y / 4 / 8 ≡ y / 8 / 4 = omega arith in
    let q : b / 8 ≡ bit_and (bit_and (y / 8) (y / 8 / 2)) (y / 8 / 4) = and_shr (bit_and y (y / 2)) (y / 4) 3 ∙ rw (and_shr y (y / 2) 3, u, v) in
    ap (λ (k : ℕ). bit_and k (ones n * 8 + 1)) s ∙ h ∙ ap (λ (k : ℕ). bit_and k (ones n) * 8 + bit_and (b % 8) 1) q
    ∙ ap (λ (k : ℕ). sevens n (y / 8) * 8 + k) (l ∙ m ∙ p)

pair : (a b u v : ℕ) → b < 8 → v < 8 → eqb (a * 8 + b) (u * 8 + v) ≡ (eqb b v && eqb a u)
pair a b u v p q =
    same _ _
    (λ e. let h = eqb-true (a * 8 + b) (u * 8 + v) e in and_both _ _ (eq-eqb b v (omega arith)) (eq-eqb a u (omega arith)))
    (λ e. let h = eqb-true b v (and_left _ _ e) in let g = eqb-true a u (and_right (eqb b v) _ e) in eq-eqb (a * 8 + b) (u * 8 + v) (omega arith))

-- what the digit of resolution n has to be
abbrev tail : ℕ → ℕ → ℕ
tail r n = cond (leb n r) 0 1

tail_ones : (r n : ℕ) → ones (suc n - r) ≡ ones (n - r) * 8 + tail r (suc n)
unfolding ones
tail_ones r n = ⊎_elim
    (λ (h : suc n ≤ r).
    let a : suc n - r ≡ 0 = omega arith in let b : n - r ≡ 0 = omega arith in
    rw (a, b, le-leb (suc n) r h))
    (λ (h : r < suc n).
    let a : suc n - r ≡ suc (n - r) = omega arith in
    rw (a, lt-leb (suc n) r h))
    (le_or_lt (suc n) r)

-- the digit of resolution k of a number of n digits, and its test
abbrev fits_at : ℕ → ℕ → ℕ → ℕ → Bool
fits_at r n y k = cond (leb k r) (ltb (y / 2 ^ (3 * (n - k)) % 8) 7) (eqb (y / 2 ^ (3 * (n - k)) % 8) 7)

bit : (b : Bool) (u v : ℕ) → u < 8 → v < 8 → cond b u v < 8
bit true u v p q = p
bit false u v p q = q

is_one : (b : Bool) → eqb (cond b 1 0) 1 ≡ b
is_one true = refl
is_one false = refl

small : (d : ℕ) → seven d < 8
small d = bit (eqb d 7) 1 0 (lit< tt) (lit< tt)

tail_small : (r n : ℕ) → tail r n < 8
tail_small r n = bit (leb n r) 0 1 (lit< tt) (lit< tt)

agree : (b : Bool) (d : ℕ) → d < 8 → eqb (seven d) (cond b 0 1) ≡ cond b (ltb d 7) (eqb d 7)
agree true d h = ⊎_elim
    (λ (g : 7 ≤ d). let e : d ≡ 7 = omega arith in rw e)
    (λ (g : d < 7). rw (lt-ltb d 7 g, ne_eqb d 7 (λ e. omega arith)))
    (le_or_lt 7 d)
agree false d h = is_one (eqb d 7)

digits_at_once : (r n y : ℕ) → eqb (sevens n y) (ones (n - r)) ≡ all (fits_at r n y) n
unfolding all ones
digits_at_once r zero y = rw (and_zero_r (bit_and (bit_and y (y / 2)) (y / 4)), zero-sub r)
digits_at_once r (suc n) y =
    let z : suc n - suc n ≡ 0 = omega arith in
    rw (
      step n y,
      tail_ones r n,
      pair (sevens n (y / 8)) (seven (y % 8)) (ones (n - r)) (tail r (suc n)) (small (y % 8)) (tail_small r (suc n)),
      agree (leb (suc n) r) (y % 8) (omega arith),
      digits_at_once r n (y / 8),
      z,
      div-one y,
      all_same (fits_at r n (y / 8)) (fits_at r (suc n) y) n (λ k p q.
          let e : 3 + 3 * (n - k) ≡ 3 * (suc n - k) = omega arith in rw (← e, ← shr-shr y 3 (3 * (n - k)))),
    )

down : (n : ℕ) → ones n / 8 ≡ ones (n - 1)
unfolding ones
down zero = refl
down (suc n) = let e : suc n - 1 ≡ n = omega arith in rw e (omega arith)

ones_shift : (r n : ℕ) → ones n / 2 ^ (3 * r) ≡ ones (n - r)
ones_shift zero n = let z : n - 0 ≡ n = omega arith in rw (z, div-one (ones n))
ones_shift (suc r) n =
    let e : 3 * suc r ≡ 3 + 3 * r = omega arith in
    rw (e, ← shr-shr (ones n) 3 (3 * r), down n, ones_shift r (n - 1)) (ap ones (omega arith))

-- one comparison is the fifteen tests
pub digits_fit : (x : ℕ) → eqb (bit_and (bit_and (bit_and x (x / 2)) (x / 4)) 0o111111111111111) (0o111111111111111 / 2 ^ (3 * resolution_of x)) ≡ all (digit_fits x) 15
unfolding ones
digits_fit x = rw (ones_shift (resolution_of x) 15) (digits_at_once (resolution_of x) 15 x)
