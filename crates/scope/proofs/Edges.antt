-- Valid edges by their top byte, bits 56 to 63, which is 17 to 22; and an edge's owner.
--     valid_edge_is           the rule as tests of the top byte, the base cell, the digits and a pentagon's edge 1
--     edge_parts, edge_top   what a valid edge has
--     owner_is, owner_low    its owner: the cell's top byte above the edge's low 56 bits
-- Assumes nothing.
use Prim.Native.Nat.{ℕ, ◌+◌, ◌-◌, ◌*◌, ◌/◌, ◌%◌, ◌^◌, ◌<◌, ◌≤◌}
use mathlib.Core.Path.{◌≡◌, ◌∙◌}
use mathlib.Core.Bool.{true, not, ◌&&◌}
use mathlib.Core.Logic.{⊎_elim}
use native.Mathlib.Omega.{arith}
use lib.Dec.{eqb, leb}
use borrow.Author.Tests.{eq-eqb, le-leb, lt-leb, eqb-true, leb-true}
use Rattle.scope.specs.Lists.{all}
use Rattle.scope.specs.Cells.{mode_of, edge_number, base_cell, digit_fits, valid_cell, is_pentagon, owner_of, valid_edge}
use Rattle.scope.proofs.Tests.{same, never, and_left, and_right, and_true, le_or_lt}
use Rattle.scope.proofs.Cells.{top, top_mode, valid_cell_is, cell_top, same_base, same_fits, same_pentagon}

-- what a valid edge has: its mode, its owner and its number
pub record Edge (x : ℕ) : Type 0 where
  pub mode : mode_of x ≡ 2
  pub owned : valid_cell (owner_of x) ≡ true
  pub low : 1 ≤ edge_number x
  pub high : edge_number x ≤ 6

pub edge_parts : (x : ℕ) → valid_edge x ≡ true → Edge x
unfolding valid_edge
edge_parts x e =
    let a = eqb (mode_of x) 2 in
    let b = valid_cell (owner_of x) in
    let e₁ = and_left _ (not (is_pentagon (owner_of x) && eqb (edge_number x) 1)) e in
    let e₂ = and_left _ (leb (edge_number x) 6) e₁ in
    let e₃ = and_left _ (leb 1 (edge_number x)) e₂ in
    record {
      mode = eqb-true _ _ (and_left a b e₃);
      owned = and_right a b e₃;
      low = leb-true _ _ (and_right (a && b) _ e₂);
      high = leb-true _ _ (and_right (a && b && leb 1 (edge_number x)) _ e₁);
    }

pub edge_top : (x : ℕ) → valid_edge x ≡ true → (17 ≤ top x) × (top x ≤ 22)
unfolding owner_of
edge_top x e =
    let p = edge_parts x e in
    let t = cell_top (owner_of x) p.owned in
    let d = top_mode x in
    let m = p.mode in
    let a = p.low in
    let b = p.high in
    let s : x - 2 ^ 59 - edge_number x * 2 ^ 56 < 9 * 2 ^ 56 = omega arith in
    let u : x / 2 ^ 59 < 4 = omega arith in
    (omega arith, omega arith)

-- with 17 to 22 in the top byte, the owner is 8 above the low 56 bits
module _ (x : ℕ) (a : 17 ≤ top x) (b : top x ≤ 22) where
  edge_is : edge_number x ≡ top x - 16
  edge_is = omega arith

  owner_at : 2 ^ 59 + x % 2 ^ 56 ≡ owner_of x
  unfolding owner_of
  owner_at = let e = edge_is in let s : x ≡ top x * 2 ^ 56 + x % 2 ^ 56 = omega arith in omega arith

  owner_low_at : owner_of x % 2 ^ 56 ≡ x % 2 ^ 56
  owner_low_at = let o = owner_at in omega arith

module _ (x : ℕ) (valid : valid_edge x ≡ true) where
  pub owner_is : 2 ^ 59 + x % 2 ^ 56 ≡ owner_of x
  owner_is = owner_at x (edge_top x valid).0 (edge_top x valid).1

  pub owner_low : owner_of x % 2 ^ 56 ≡ x % 2 ^ 56
  owner_low = owner_low_at x (edge_top x valid).0 (edge_top x valid).1

edge_rest : (x : ℕ) → 17 ≤ top x → top x ≤ 22
    → valid_edge x ≡ (leb (base_cell x) 121 && all (digit_fits x) 15 && not (is_pentagon x && eqb (top x) 17))
unfolding valid_edge
edge_rest x a b =
    let d = top_mode x in
    let m : mode_of x ≡ 2 = omega arith in
    let e = edge_is x a b in
    let o = owner_at x a b in
    let w = owner_low_at x a b in
    let t : top (owner_of x) ≡ 8 = omega arith in
    let l : leb 1 (edge_number x) ≡ true = le-leb 1 (edge_number x) (omega arith) in
    let h : leb (edge_number x) 6 ≡ true = le-leb (edge_number x) 6 (omega arith) in
    let i : eqb (edge_number x) 1 ≡ eqb (top x) 17 =
    same _ _
    (λ q. let r = eqb-true (edge_number x) 1 q in eq-eqb (top x) 17 (omega arith))
    (λ q. let r = eqb-true (top x) 17 q in eq-eqb (edge_number x) 1 (omega arith)) in
    let rest = leb (base_cell x) 121 && all (digit_fits x) 15 in
    let v : valid_cell (owner_of x) ≡ rest =
    valid_cell_is (owner_of x) ∙ rw (eq-eqb (top (owner_of x)) 8 t, same_base (owner_of x) x w, same_fits (owner_of x) x w) in
    rw (eq-eqb (mode_of x) 2 m, v, l, h, same_pentagon (owner_of x) x w, i, and_true rest, and_true rest)

pub valid_edge_is : (x : ℕ)
    → valid_edge x ≡ (leb 17 (top x) && leb (top x) 22 && leb (base_cell x) 121 && all (digit_fits x) 15 && not (is_pentagon x && eqb (top x) 17))
valid_edge_is x =
    ⊎_elim
    (λ (a : 17 ≤ top x).
    ⊎_elim
    (λ (b : top x ≤ 22). rw (le-leb 17 (top x) a, le-leb (top x) 22 b) (edge_rest x a b))
    (λ (b : 22 < top x). rw (le-leb 17 (top x) a, lt-leb (top x) 22 b) (never (valid_edge x) (λ e. let r = (edge_top x e).1 in omega arith)))
    (le_or_lt (top x) 22))
    (λ (a : top x < 17). rw (lt-leb 17 (top x) a) (never (valid_edge x) (λ e. let r = (edge_top x e).0 in omega arith)))
    (le_or_lt 17 (top x))
