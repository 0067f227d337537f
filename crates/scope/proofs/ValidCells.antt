-- What a valid cell has in each of its fields, beside its top byte (Cells.antt).
--     cell_base     its base cell is at most 121
--     cell_digit    each digit up to its resolution is at most 6
--     cell_head     all that stands above the digits, by its fields
-- Assumes nothing.
use mathlib.Core.Path.{◌≡◌, refl, ◌∙◌, ap, sym}
use mathlib.Core.Bool.{true}
use Prim.Native.Nat.{ℕ, ◌+◌, ◌*◌, ◌/◌, ◌%◌, ◌^◌, ◌<◌, ◌≤◌}
use native.Mathlib.Nat.{div-div-eq-div-mul}
use native.Mathlib.Omega.{arith}
use lib.Dec.{eqb}
use borrow.Author.Tests.{le-leb, ltb-true, leb-true}
use Rattle.scope.specs.Cells.{base_cell, resolution_of, digit, valid_cell}
use Rattle.scope.proofs.Tests.{and_left, and_right}
use Rattle.scope.proofs.Cells.{top, valid_cell_is, cell_top, cell_fits}

head_parts : (c b p : ℕ) → p / 128 % 16 ≡ c → p % 128 ≡ b → p / 2048 ≡ 8 → p ≡ (8 * 16 + c) * 128 + b
head_parts c b p h k l = let m : p / 128 / 16 ≡ p / 2048 = div-div-eq-div-mul p 128 16 in omega arith

module _ (x : ℕ) (valid : valid_cell x ≡ true) where
  pub cell_base : base_cell x ≤ 121
  cell_base = leb-true _ _ (and_right (eqb (top x) 8) _ (and_left _ _ (sym (valid_cell_is x) ∙ valid)))

  pub cell_digit : (k : ℕ) → 0 < k → k ≤ resolution_of x → digit x k < 7
  cell_digit k p q = ltb-true _ _ (rw (le-leb k (resolution_of x) q) at (cell_fits x valid k p (omega arith)))

  pub cell_head : x / 2 ^ 45 ≡ (8 * 16 + resolution_of x) * 128 + base_cell x
  cell_head =
      head_parts (resolution_of x) (base_cell x) (x / 2 ^ 45) (ap (λ (y : ℕ). y % 16) (div-div-eq-div-mul x (2 ^ 45) 128)) refl
      (div-div-eq-div-mul x (2 ^ 45) 2048 ∙ cell_top x valid)
