-- Which cell an edge belongs to: of cells of which none is or lies under another, one at most.
--     Below a b, below_parts, below_under     `under` as facts
--     cell_same                               a valid cell is told by its resolution, base cell and digits
--     Owned o x                               the owner o is the cell x or lies under it; `owned_test`: as the rules test it
--     one_cell                                ONE CELL: no owner belongs to two cells of which neither lies under the other
--     outline_owned                           a row of an outline belongs to its cell
--     outlines_apart                          no row is in the outlines of two cells of a list that passes
-- Assumes nothing.
use mathlib.Core.Path.{◌≡◌, refl, sym, ◌∙◌, ap, subst}
use mathlib.Core.Logic.{◌⊎◌, inl, inr, ⊎_elim}
use mathlib.Core.Bool.{Bool, true, false, ◌&&◌, ◌||◌}
use mathlib.Core.List.Memᴰ
use mathlib.Core.List.{List, Memᴰ}
use Prim.Native.Nat.{ℕ, ◌/◌, ◌^◌, ◌≤◌, ◌<◌}
use native.Mathlib.Nat.{eq-or-lt_of_le}
use native.Mathlib.Omega.{arith}
use lib.Dec.{eqb, ltb}
use lib.ListN.{length}
use borrow.Author.Tests.{eq-eqb, lt-ltb, le-ltb, eqb-true, ltb-true}
use Rattle.scope.specs.Lists.{at, all}
use Rattle.scope.specs.Cells.{resolution_of, base_cell, digit, valid_cell, owner_of, under}
use Rattle.scope.specs.Walk.{spell, outline}
use Rattle.scope.specs.Table.{Table, row_count, target_of, row_of, outline_rows}
use Rattle.scope.specs.Rules.{owned_by}
use Rattle.scope.proofs.Tests.{either, clash, le_or_lt, and_left, and_right, and_both, all_at, all_from}
use Rattle.scope.proofs.Cells.{cell_after}
use Rattle.scope.proofs.ValidCells.{cell_head}
use Rattle.scope.proofs.Spell.{spell_same, spell_own}
use Rattle.scope.proofs.RowSearch.{row_holds}
use Rattle.scope.proofs.WalkOwners.{outline_edges}
use Rattle.scope.proofs.CellLists.{ListGood}

-- ---- under, as facts

pub record Below (a b : ℕ) : Type 0 where
  pub finer : resolution_of b < resolution_of a
  pub base : base_cell a ≡ base_cell b
  pub digits : (k : ℕ) → 0 < k → k ≤ resolution_of b → digit a k ≡ digit b k

passed : (b c : Bool) → (b || c) ≡ true → b ≡ false → c ≡ true
passed true c e f = absurd (clash refl f)
passed false c e f = e

pub below_parts : (a b : ℕ) → under a b ≡ true → Below a b
unfolding under
below_parts a b e =
    let finer = ltb (resolution_of b) (resolution_of a) in
    let base = eqb (base_cell a) (base_cell b) in
    let agree : ℕ → Bool = λ r. ltb (resolution_of b) r || eqb (digit a r) (digit b r) in
    let l = and_left (finer && base) (all agree 15) e in
    record {
      finer = ltb-true (resolution_of b) (resolution_of a) (and_left finer base l);
      base = eqb-true (base_cell a) (base_cell b) (and_right finer base l);
      digits = λ k p q. eqb-true (digit a k) (digit b k) (passed (ltb (resolution_of b) k) (eqb (digit a k) (digit b k))
          (all_at agree 15 (and_right (finer && base) (all agree 15) e) k p (omega arith)) (le-ltb (resolution_of b) k q));
    }

pub below_under : (a b : ℕ) → Below a b → under a b ≡ true
unfolding under
below_under a b B = and_both _ _
    (and_both _ _ (lt-ltb (resolution_of b) (resolution_of a) B.finer) (eq-eqb (base_cell a) (base_cell b) B.base))
    (all_from _ 15 (λ k p q. ⊎_elim
    (λ (h : k ≤ resolution_of b). rw (le-ltb (resolution_of b) k h) (eq-eqb (digit a k) (digit b k) (B.digits k p h)))
    (λ (h : resolution_of b < k). rw (lt-ltb (resolution_of b) k h))
    (le_or_lt k (resolution_of b))))

-- ---- a cell by its fields

pub cell_same : (x y : ℕ) → valid_cell x ≡ true → valid_cell y ≡ true → resolution_of x ≡ resolution_of y → base_cell x ≡ base_cell y
    → ((k : ℕ) → 0 < k → k ≤ resolution_of x → digit x k ≡ digit y k) → x ≡ y
cell_same x y v w r b d =
    let top : x / 2 ^ 45 ≡ y / 2 ^ 45 = cell_head x v ∙ rw (r, b) (sym (cell_head y w)) in
    sym (spell_own x) ∙ ap (λ (h : ℕ). spell h (digit x) 15) top ∙ spell_same (y / 2 ^ 45) (digit x) (digit y) 15 each ∙ spell_own y
  where
    each : (k : ℕ) → 0 < k → k ≤ 15 → digit x k ≡ digit y k
    each k p q = ⊎_elim
        (λ (h : k ≤ resolution_of x). d k p h)
        (λ (h : resolution_of x < k). cell_after x v k h q ∙ sym (cell_after y w k (omega arith) q))
        (le_or_lt k (resolution_of x))

-- ---- one cell

abbrev pub Owned : ℕ → ℕ → Type 0
Owned o x = (o ≡ x) ⊎ (under o x ≡ true)

pub owned_test : (e x : ℕ) → owned_by e x ≡ true → Owned (owner_of e) x
unfolding owned_by
owned_test e x q = ⊎_elim
    (λ p. inl (eqb-true (owner_of e) x p))
    (λ p. inr (passed (eqb (owner_of e) x) (under (owner_of e) x) q p))
    (either (eqb (owner_of e) x))

pub test_owned : (e x : ℕ) → Owned (owner_of e) x → owned_by e x ≡ true
unfolding owned_by
test_owned e x (inl p) = rw (eq-eqb (owner_of e) x p)
test_owned e x (inr p) = ⊎_elim (λ q. rw q) (λ q. rw q p) (either (eqb (owner_of e) x))

-- of two cells over one, the finer lies under the coarser, or they are one
over_both : (o x y : ℕ) → valid_cell x ≡ true → valid_cell y ≡ true → under y x ≡ false → Below o x → Below o y → resolution_of x ≤ resolution_of y → x ≡ y
over_both o x y v w n A B h = ⊎_elim
    (λ (e : resolution_of x ≡ resolution_of y). cell_same x y v w e (sym A.base ∙ B.base) (λ k p q. sym (A.digits k p q) ∙ B.digits k p (omega arith)))
    (λ (l : resolution_of x < resolution_of y). absurd (clash (below_under y x (record {
      finer = l;
      base = sym B.base ∙ A.base;
      digits = λ k p q. sym (B.digits k p (omega arith)) ∙ A.digits k p q;
    })) n))
    (eq-or-lt_of_le h)

pub one_cell : (o x y : ℕ) → valid_cell x ≡ true → valid_cell y ≡ true → under x y ≡ false → under y x ≡ false → Owned o x → Owned o y → x ≡ y
one_cell o x y v w n k (inl p) (inl q) = sym p ∙ q
one_cell o x y v w n k (inl p) (inr q) = absurd (clash (subst (λ (a : ℕ). under a y ≡ true) p q) n)
one_cell o x y v w n k (inr p) (inl q) = absurd (clash (subst (λ (a : ℕ). under a x ≡ true) q p) k)
one_cell o x y v w n k (inr p) (inr q) =
    let A = below_parts o x p in
    let B = below_parts o y q in
    ⊎_elim
    (λ (h : resolution_of x ≤ resolution_of y). over_both o x y v w k A B h)
    (λ (h : resolution_of y < resolution_of x). sym (over_both o y x w v n B A (omega arith)))
    (le_or_lt (resolution_of x) (resolution_of y))

-- ---- rows of outlines

pub outline_owned : (t : Table) (x a : ℕ) → valid_cell x ≡ true → Memᴰ a (outline_rows t x) → a < row_count t → Owned (owner_of (at t.edges a)) x
unfolding outline_rows
outline_owned t x a v m h = go (Memᴰ.of_map (row_of t.edges) (outline x (target_of t)) m)
  where
    go : (e : ℕ) × Memᴰ e (outline x (target_of t)) × (row_of t.edges e ≡ a) → Owned (owner_of (at t.edges a)) x
    go (e, i, q) =
        let l : row_of t.edges e < row_count t = omega arith in
        let s : e ≡ at t.edges a = sym (row_holds t.edges e l) ∙ ap (at t.edges) q in
        subst (λ (w : ℕ). Owned (owner_of w) x) s (outline_edges x (target_of t) v (omega arith) e i).owner

pub outlines_apart : {mode target capacity : ℕ} {cs : List ℕ} → ListGood mode target capacity cs → (t : Table) (i j a : ℕ) → i < length cs → j < length cs
    → Memᴰ a (outline_rows t (at cs i)) → Memᴰ a (outline_rows t (at cs j)) → a < row_count t → at cs i ≡ at cs j
outlines_apart {cs = cs} g t i j a h l p q r =
    one_cell (owner_of (at t.edges a)) (at cs i) (at cs j) (g.valid i h) (g.valid j l) (g.apart i j h l) (g.apart j i l h)
    (outline_owned t (at cs i) a (g.valid i h) p r) (outline_owned t (at cs j) a (g.valid j l) q r)
