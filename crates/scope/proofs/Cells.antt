-- Valid cells by their top byte, bits 56 to 63, which is 8; and numbers that share their low 56 bits.
--     valid_cell_is     the rule as tests of the top byte, the base cell and the digits
--     cell_top         what a valid cell has there
--     cell_fits        each digit of a valid cell fits; cell-after: past its resolution it is 7
--     same-..          numbers with the same low 56 bits have the same resolution, base cell and digits
-- Assumes nothing.
use Prim.Native.Nat.{ℕ, ◌+◌, ◌-◌, ◌*◌, ◌/◌, ◌%◌, ◌^◌, ◌<◌, ◌≤◌}
use mathlib.Core.Path.{◌≡◌, ◌∙◌, ap, sym, subst}
use mathlib.Core.Bool.{Bool, true, ◌&&◌}
use native.Mathlib.Nat.{div-div-eq-div-mul}
use native.Mathlib.Omega.{arith}
use lib.Dec.{eqb, leb, ltb}
use lib.Pow.{field, mod-mod-pow}
use borrow.Author.Tests.{eq-eqb, lt-ltb, lt-leb, eqb-true, ltb-true}
use Rattle.scope.specs.Lists.{all}
use Rattle.scope.specs.Cells.{mode_of, edge_number, resolution_of, base_cell, digit, digit_fits, digit_zero, valid_cell, is_pentagon}
use Rattle.scope.proofs.Tests.{same, and_left, and_right, and_both, all_same, all_at}

abbrev pub top : ℕ → ℕ
top x = x / 2 ^ 56

pub top_mode : (x : ℕ) → top x / 8 ≡ x / 2 ^ 59
top_mode x = div-div-eq-div-mul x (2 ^ 56) 8

-- ---- a valid cell

eight : (q p : ℕ) → q < 16 → q % 16 ≡ 1 → p / 8 ≡ q → p % 8 ≡ 0 → p ≡ 8
eight q p a b d e = omega arith

-- bit 63 zero, mode 1 and edge bits 0, at once
top_is : (x : ℕ) → eqb (top x) 8 ≡ (ltb x (2 ^ 63) && eqb (mode_of x) 1 && eqb (edge_number x) 0)
top_is x =
    same _ _
    (λ e.
    let h : top x ≡ 8 = eqb-true _ _ e in
    let a : x < 2 ^ 63 = omega arith in
    let b : mode_of x ≡ 1 = omega arith in
    let d : edge_number x ≡ 0 = omega arith in
    and_both _ _ (and_both _ _ (lt-ltb _ _ a) (eq-eqb _ _ b)) (eq-eqb _ _ d))
    (λ e.
    let a : x < 2 ^ 63 = ltb-true _ _ (and_left _ _ (and_left _ _ e)) in
    let b : mode_of x ≡ 1 = eqb-true _ _ (and_right (ltb x (2 ^ 63)) _ (and_left _ _ e)) in
    let d : edge_number x ≡ 0 = eqb-true _ _ (and_right (ltb x (2 ^ 63) && eqb (mode_of x) 1) _ e) in
    let l : x / 2 ^ 59 < 16 = omega arith in
    eq-eqb _ _ (eight (x / 2 ^ 59) (top x) l b (top_mode x) d))

pub valid_cell_is : (x : ℕ) → valid_cell x ≡ (eqb (top x) 8 && leb (base_cell x) 121 && all (digit_fits x) 15)
unfolding valid_cell
valid_cell_is x = ap (λ (b : Bool). b && leb (base_cell x) 121 && all (digit_fits x) 15) (sym (top_is x))

module _ (x : ℕ) (valid : valid_cell x ≡ true) where
  pub cell_top : top x ≡ 8
  cell_top = eqb-true _ _ (and_left _ _ (and_left _ _ (sym (valid_cell_is x) ∙ valid)))

  pub cell_fits : (k : ℕ) → 0 < k → k ≤ 15 → digit_fits x k ≡ true
  cell_fits k l m = all_at (digit_fits x) 15 (and_right (eqb (top x) 8 && leb (base_cell x) 121) _ (sym (valid_cell_is x) ∙ valid)) k l m

  pub cell_after : (k : ℕ) → resolution_of x < k → k ≤ 15 → digit x k ≡ 7
  cell_after k l m = eqb-true _ _ (rw (lt-leb k (resolution_of x) l) at (cell_fits k (omega arith) m))

-- ---- fields of the low 56 bits

module _ (x y : ℕ) (low : x % 2 ^ 56 ≡ y % 2 ^ 56) where
  same_field : (j m : ℕ) → m + j ≤ 56 → x / 2 ^ j % 2 ^ m ≡ y / 2 ^ j % 2 ^ m
  same_field j m h =
      let e : 56 ≡ (56 - (m + j)) + (m + j) = omega arith in
      let a : x % 2 ^ (m + j) ≡ y % 2 ^ (m + j) =
      sym (mod-mod-pow x (56 - (m + j)) (m + j))
      ∙ ap (λ (n : ℕ). n % 2 ^ (m + j)) (subst (λ (k : ℕ). x % 2 ^ k ≡ y % 2 ^ k) e low)
      ∙ mod-mod-pow y (56 - (m + j)) (m + j) in
      sym (field x m j) ∙ ap (λ (n : ℕ). n / 2 ^ j) a ∙ field y m j

  pub same_resolution : resolution_of x ≡ resolution_of y
  same_resolution = same_field 52 4 (omega arith)

  pub same_base : base_cell x ≡ base_cell y
  same_base = same_field 45 7 (omega arith)

  pub same_digit : (k : ℕ) → digit x k ≡ digit y k
  same_digit k = same_field (3 * (15 - k)) 3 (omega arith)

  pub same_fits : all (digit_fits x) 15 ≡ all (digit_fits y) 15
  same_fits = all_same (digit_fits x) (digit_fits y) 15 (λ k p q. rw (same_resolution, same_digit k))

  pub same_pentagon : is_pentagon x ≡ is_pentagon y
  unfolding is_pentagon
  same_pentagon = rw (same_base, all_same (digit_zero x) (digit_zero y) 15 (λ k p q. rw (same_resolution, same_digit k)))
