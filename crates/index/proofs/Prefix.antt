-- One comparison of shifted words tells whether two numbers have the same digits up to a resolution.
--     under_at_once        `under`: the base cell and the digits up to the coarser resolution
--     pentagon_at_once     `is_pentagon`: the digits up to the resolution are those of 0
-- Assumes nothing.
use mathlib.Core.Path.{◌≡◌, refl, ◌∙◌, ap, sym, subst}
use mathlib.Core.Bool.{Bool, true, false, ◌&&◌, ◌||◌}
use mathlib.Core.Logic.{⊎_elim}
use Prim.Native.Nat.{ℕ, zero, suc, ◌+◌, ◌-◌, ◌*◌, ◌/◌, ◌%◌, ◌^◌, ◌<◌, ◌≤◌}
use native.Mathlib.Nat.{div-one, zero-div}
use native.Mathlib.Omega.{arith}
use lib.Pow.{shr-shr, field, mod-mod-pow}
use lib.Dec.{eqb, ltb}
use borrow.Author.Tests.{eq-eqb, lt-ltb, le-ltb, le-leb, lt-leb, eqb-true}
use Rattle.scope.specs.Lists.{all, member}
use Rattle.scope.specs.Cells.{resolution_of, base_cell, weight, digit, digit_zero, pentagon_base_cells, is_pentagon, under}
use Rattle.scope.proofs.Tests.{same, and_left, and_right, and_both, and_true, le_or_lt, all_same}

-- the digits of resolution k of two numbers of n digits are equal, for k up to r
abbrev same_at : ℕ → ℕ → ℕ → ℕ → ℕ → Bool
same_at r n y z k = ltb r k || eqb (y / 2 ^ (3 * (n - k)) % 8) (z / 2 ^ (3 * (n - k)) % 8)

split : (y z : ℕ) → eqb y z ≡ (eqb (y % 8) (z % 8) && eqb (y / 8) (z / 8))
split y z = same _ _
    (λ e. let h = eqb-true y z e in and_both _ _ (eq-eqb (y % 8) (z % 8) (omega arith)) (eq-eqb (y / 8) (z / 8) (omega arith)))
    (λ e. let h = eqb-true (y % 8) (z % 8) (and_left _ _ e) in let g = eqb-true (y / 8) (z / 8) (and_right (eqb (y % 8) (z % 8)) _ e) in eq-eqb y z (omega arith))

and_swap : (a b : Bool) → (a && b) ≡ (b && a)
and_swap true b = sym (and_true b)
and_swap false true = refl
and_swap false false = refl

shuffle : (d t s : Bool) → (d && (t && s)) ≡ (t && (d && s))
shuffle true t s = refl
shuffle false true s = refl
shuffle false false s = refl

assoc : (d t s : Bool) → ((d && t) && s) ≡ (d && (t && s))
assoc true t s = refl
assoc false t s = refl

module _ (r n y z : ℕ) where
  rest_same : all (same_at r n (y / 8) (z / 8)) n ≡ all (same_at r (suc n) y z) n
  rest_same = all_same (same_at r n (y / 8) (z / 8)) (same_at r (suc n) y z) n (λ k p q.
      let e : 3 + 3 * (n - k) ≡ 3 * (suc n - k) = omega arith in rw (← e, ← shr-shr y 3 (3 * (n - k)), ← shr-shr z 3 (3 * (n - k))))

  top_same : (x : ℕ) → x / 8 / 2 ^ (3 * n) ≡ x / 2 ^ (3 * suc n)
  top_same x = let e : 3 * suc n ≡ 3 + 3 * n = omega arith in rw (e, ← shr-shr x 3 (3 * n))

prefix_at_once : (r n y z : ℕ) → eqb (y / 2 ^ (3 * (n - r))) (z / 2 ^ (3 * (n - r))) ≡ (eqb (y / 2 ^ (3 * n)) (z / 2 ^ (3 * n)) && all (same_at r n y z) n)
unfolding all
prefix_at_once r zero y z = let e : 0 - r ≡ 0 = omega arith in rw (e, and_true)
prefix_at_once r (suc n) y z =
    let ih : eqb (y / 8 / 2 ^ (3 * (n - r))) (z / 8 / 2 ^ (3 * (n - r))) ≡ (eqb (y / 2 ^ (3 * suc n)) (z / 2 ^ (3 * suc n)) && all (same_at r (suc n) y z) n) =
    rw (← top_same r n y z y, ← top_same r n y z z, ← rest_same r n y z) (prefix_at_once r n (y / 8) (z / 8)) in
    let o : suc n - suc n ≡ 0 = omega arith in
    ⊎_elim
    (λ (g : suc n ≤ r).
    let a : suc n - r ≡ 0 = omega arith in let b : n - r ≡ 0 = omega arith in
    let i : eqb (y / 8) (z / 8) ≡ (eqb (y / 2 ^ (3 * suc n)) (z / 2 ^ (3 * suc n)) && all (same_at r (suc n) y z) n) =
    subst (λ (k : ℕ). eqb k (z / 8) ≡ (eqb (y / 2 ^ (3 * suc n)) (z / 2 ^ (3 * suc n)) && all (same_at r (suc n) y z) n)) (div-one (y / 8))
    (subst (λ (k : ℕ). eqb (y / 8 / 1) k ≡ (eqb (y / 2 ^ (3 * suc n)) (z / 2 ^ (3 * suc n)) && all (same_at r (suc n) y z) n)) (div-one (z / 8)) (rw b at ih)) in
    rw (a, o, div-one y, div-one z, le-ltb r (suc n) g) (split y z ∙ rw i (shuffle (eqb (y % 8) (z % 8)) (eqb (y / 2 ^ (3 * suc n)) (z / 2 ^ (3 * suc n))) (all (same_at r (suc n) y z) n))))
    (λ (g : r < suc n).
    let a : 3 * (suc n - r) ≡ 3 + 3 * (n - r) = omega arith in
    rw (a, ← shr-shr y 3 (3 * (n - r)), ← shr-shr z 3 (3 * (n - r)), lt-ltb r (suc n) g) ih)
    (le_or_lt (suc n) r)

-- a digit lies in the low b bits
pub low_digit : (x b k : ℕ) → 3 + 3 * (15 - k) ≤ b → x % 2 ^ b / 2 ^ (3 * (15 - k)) % 8 ≡ digit x k
low_digit x b k h =
    let j : ℕ = 3 * (15 - k) in
    let e : b ≡ (b - (3 + j)) + (3 + j) = omega arith in
    sym (field (x % 2 ^ b) 3 j)
    ∙ ap (λ (n : ℕ). n / 2 ^ j) (subst (λ (m : ℕ). x % 2 ^ m % 2 ^ (3 + j) ≡ x % 2 ^ (3 + j)) (sym e) (mod-mod-pow x (b - (3 + j)) (3 + j)))
    ∙ field x 3 j

pub under_at_once : (a b : ℕ)
    → under a b ≡ (ltb (resolution_of b) (resolution_of a) && eqb (a % 2 ^ 52 / weight (resolution_of b)) (b % 2 ^ 52 / weight (resolution_of b)))
unfolding under
under_at_once a b =
    let r : ℕ = resolution_of b in
    let p : eqb (a % 2 ^ 52 / weight r) (b % 2 ^ 52 / weight r) ≡ (eqb (base_cell a) (base_cell b) && all (λ k. ltb r k || eqb (digit a k) (digit b k)) 15) =
    prefix_at_once r 15 (a % 2 ^ 52) (b % 2 ^ 52)
    ∙ rw (
      field a 7 45,
      field b 7 45,
      all_same (same_at r 15 (a % 2 ^ 52) (b % 2 ^ 52)) (λ k. ltb r k || eqb (digit a k) (digit b k)) 15
          (λ k u v. rw (low_digit a 52 k (omega arith), low_digit b 52 k (omega arith))),
    ) in
    rw p (assoc (ltb r (resolution_of a)) (eqb (base_cell a) (base_cell b)) (all (λ k. ltb r k || eqb (digit a k) (digit b k)) 15))

-- the digits up to the resolution are those of 0
digits_zero : (x : ℕ) → eqb (x % 2 ^ 45 / weight (resolution_of x)) 0 ≡ all (digit_zero x) 15
digits_zero x =
    let r : ℕ = resolution_of x in
    let y : ℕ = x % 2 ^ 45 in
    let t : y / 2 ^ 45 ≡ 0 = omega arith in
    let p : eqb (y / weight r) (0 / weight r) ≡ (eqb (y / 2 ^ 45) 0 && all (same_at r 15 y 0) 15) = prefix_at_once r 15 y 0 in
    rw (zero-div (weight r), t) at p
    ∙ all_same (same_at r 15 y 0) (digit_zero x) 15 (λ k u v.
    rw (low_digit x 45 k (omega arith), zero-div (weight k)) (⊎_elim
    (λ (h : k ≤ r). rw (le-leb k r h, le-ltb r k h))
    (λ (h : r < k). rw (lt-leb k r h, lt-ltb r k h))
    (le_or_lt k r)))

pub pentagon_at_once : (x : ℕ)
    → is_pentagon x ≡ (eqb (x % 2 ^ 45 / weight (resolution_of x)) 0 && member (base_cell x) pentagon_base_cells)
unfolding is_pentagon
pentagon_at_once x = rw digits_zero (and_swap (member (base_cell x) pentagon_base_cells) (all (digit_zero x) 15))
