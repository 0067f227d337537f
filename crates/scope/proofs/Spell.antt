-- Laws of `spell`, a number that starts with a head h and goes on by digits of base 8, and of the fields of such a number.
--     spell_read    a digit is read
--     spell_put     a digit goes and another comes
--     spell_low     the digits alone are below 8 ^ n
--     spell_high    the number is the head, then the digits
--     spell_same    equal digits spell equal numbers
--     spell_own     a number is spelled by its own digits
--     built-*       the fields of a number that is put together of them
-- Assumes nothing.
use mathlib.Core.Path.{◌≡◌, refl, ◌∙◌, ap, sym}
use mathlib.Core.Logic.{⊎_elim}
use Prim.Native.Nat.{ℕ, zero, suc, ◌+◌, ◌-◌, ◌*◌, ◌/◌, ◌%◌, ◌^◌, ◌<◌, ◌≤◌}
use native.Mathlib.Nat.{eq-or-lt_of_le, div-one, mul-one, mul_left_comm}
use native.Mathlib.Omega.{arith}
use lib.Dec.{lit<}
use lib.Pow.{pow-add, shr-shr}
use Rattle.scope.specs.Cells.{mode_of, edge_number, resolution_of, base_cell, digit}
use Rattle.scope.specs.Walk.{spell}

-- the weight of the digit r of n; `weight r` of specs/Cells.antt is `weight_in 15 r`
abbrev pub weight_in : ℕ → ℕ → ℕ
weight_in n r = 2 ^ (3 * (n - r))

weight_last : (n : ℕ) → weight_in n n ≡ 1
weight_last n = ap (λ (k : ℕ). 2 ^ k) (let e : 3 * (n - n) ≡ 0 = omega arith in e)

one_more : (n r : ℕ) → r ≤ n → 3 * (suc n - r) ≡ 3 + 3 * (n - r)
one_more n r h = omega arith

pub spell_read : (h : ℕ) (f : ℕ → ℕ) → ((k : ℕ) → f k < 8) → (n r : ℕ) → 0 < r → r ≤ n → spell h f n / weight_in n r % 8 ≡ f r
unfolding spell
spell_read h f small zero r p q = absurd (omega arith)
spell_read h f small (suc n) r p q =
    ⊎_elim
    (λ (e : r ≡ suc n).
    let d : (spell h f n * 8 + f (suc n)) % 8 ≡ f (suc n) = omega (arith, small (suc n)) in
    rw (e, weight_last (suc n), div-one) d)
    (λ (l : r < suc n).
    let d : (spell h f n * 8 + f (suc n)) / 8 ≡ spell h f n = omega (arith, small (suc n)) in
    rw (one_more n r (omega arith), ← shr-shr (spell h f n * 8 + f (suc n)) 3 (3 * (n - r)), d)
    (spell_read h f small n r p (omega arith)))
    (eq-or-lt_of_le q)

-- two numbers that agree in every digit up to n
pub spell_same : (h : ℕ) (f g : ℕ → ℕ) (n : ℕ) → ((k : ℕ) → 0 < k → k ≤ n → f k ≡ g k) → spell h f n ≡ spell h g n
unfolding spell
spell_same h f g zero e = refl
spell_same h f g (suc n) e =
    let a : spell h f n ≡ spell h g n = spell_same h f g n (λ k p q. e k p (omega arith)) in
    omega (arith, e (suc n) (omega arith) (omega arith))

pub spell_put : (h : ℕ) (f g : ℕ → ℕ) (n r : ℕ) → 0 < r → r ≤ n → ((k : ℕ) → (k ≡ r → ⊥) → f k ≡ g k)
    → spell h f n + g r * weight_in n r ≡ spell h g n + f r * weight_in n r
unfolding spell
spell_put h f g zero r p q e = absurd (omega arith)
spell_put h f g (suc n) r p q e =
    ⊎_elim
    (λ (i : r ≡ suc n).
    let a : spell h f n ≡ spell h g n = spell_same h f g n (λ k u v. e k (omega arith)) in
    rw (i, weight_last (suc n), mul-one (g (suc n)), mul-one (f (suc n))) (omega arith))
    (λ (l : r < suc n).
    let a : spell h f n + g r * weight_in n r ≡ spell h g n + f r * weight_in n r = spell_put h f g n r p (omega arith) e in
    let w : weight_in (suc n) r ≡ 8 * weight_in n r = ap (λ (k : ℕ). 2 ^ k) (one_more n r (omega arith)) ∙ pow-add 2 3 (3 * (n - r)) in
    rw (w, mul_left_comm (g r) 8 (weight_in n r), mul_left_comm (f r) 8 (weight_in n r)) (omega (arith, e (suc n) (omega arith))))
    (eq-or-lt_of_le q)

eight_more : (n : ℕ) → 2 ^ (3 * suc n) ≡ 8 * 2 ^ (3 * n)
eight_more n = ap (λ (k : ℕ). 2 ^ k) (let e : 3 * suc n ≡ 3 + 3 * n = omega arith in e) ∙ pow-add 2 3 (3 * n)

pub spell_low : (f : ℕ → ℕ) → ((k : ℕ) → f k < 8) → (n : ℕ) → spell 0 f n < 2 ^ (3 * n)
unfolding spell
spell_low f small zero = lit< tt
spell_low f small (suc n) = omega (arith, eight_more n, small (suc n), spell_low f small n)

pub spell_high : (h : ℕ) (f : ℕ → ℕ) (n : ℕ) → spell h f n ≡ h * 2 ^ (3 * n) + spell 0 f n
unfolding spell
spell_high h f zero = let e : h ≡ h * 1 + 0 = omega arith in e
spell_high h f (suc n) = rw (eight_more n, mul_left_comm h 8 (2 ^ (3 * n))) (omega (arith, spell_high h f n))

spell_part : (x n m : ℕ) → m ≤ n → spell (x / 2 ^ (3 * n)) (λ k. x / 2 ^ (3 * (n - k)) % 8) m ≡ x / 2 ^ (3 * (n - m))
unfolding spell
spell_part x n zero h = ap (λ (k : ℕ). x / 2 ^ k) (let e : 3 * n ≡ 3 * (n - 0) = omega arith in e)
spell_part x n (suc m) h =
    let a : spell (x / 2 ^ (3 * n)) (λ k. x / 2 ^ (3 * (n - k)) % 8) m ≡ x / 2 ^ (3 * (n - m)) = spell_part x n m (omega arith) in
    let e : 3 * (n - m) ≡ 3 * (n - suc m) + 3 = omega arith in
    let b : x / 2 ^ (3 * (n - suc m)) / 8 ≡ x / 2 ^ (3 * (n - m)) = shr-shr x (3 * (n - suc m)) 3 ∙ ap (λ (k : ℕ). x / 2 ^ k) (sym e) in
    omega arith

pub spell_own : (x : ℕ) → spell (x / 2 ^ 45) (digit x) 15 ≡ x
spell_own x = spell_part x 15 15 (omega arith) ∙ div-one x

-- ---- the fields above the digits

-- the number with mode m (and bit 63 above it), edge number e, resolution r, base cell b and the digits l
abbrev pub built : ℕ → ℕ → ℕ → ℕ → ℕ → ℕ
built m e r b l = (((m * 8 + e) * 16 + r) * 128 + b) * 2 ^ 45 + l

module _ (m e r b l : ℕ) (em : e < 8) (rm : r < 16) (bm : b < 128) (lm : l < 2 ^ 45) where
  pub built_top : built m e r b l / 2 ^ 56 ≡ m * 8 + e
  built_top = omega arith

  pub built_mode : m < 16 → mode_of (built m e r b l) ≡ m
  built_mode h = let k : built m e r b l / 2 ^ 59 ≡ m = omega arith in omega arith

  pub built_edge : edge_number (built m e r b l) ≡ e
  built_edge = let h : built m e r b l / 2 ^ 56 ≡ m * 8 + e = built_top in omega arith

  pub built_resolution : resolution_of (built m e r b l) ≡ r
  built_resolution = let h : built m e r b l / 2 ^ 52 ≡ (m * 8 + e) * 16 + r = omega arith in omega arith

  pub built_base : base_cell (built m e r b l) ≡ b
  built_base = let h : built m e r b l / 2 ^ 45 ≡ ((m * 8 + e) * 16 + r) * 128 + b = omega arith in omega arith
