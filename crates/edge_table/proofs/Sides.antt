-- Edge 1 of a pentagon is looked for by its fields above the digits, base cell by base cell: it has only zeros up to its resolution, and so
-- has the first row with these fields.
--     side_none, side_past, side_first     no row with these fields is edge 1 of a pentagon: there is none, none so high, or the first is not
--     sides_done     where no base cell has such a row, none is
-- Assumes nothing.
use Prim.Native.Nat.{ℕ, ◌+◌, ◌*◌, ◌/◌, ◌%◌, ◌^◌, ◌<◌, ◌≤◌}
use mathlib.Core.Path.{◌≡◌, sym, ◌∙◌, ap}
use mathlib.Core.Bool.{Bool, true, false, ◌&&◌, not}
use mathlib.Core.List.{List}
use mathlib.Core.Logic.{⊎_elim}
use native.Mathlib.Nat.{eq-or-lt_of_le, div-eq_of_lt, lt-div-mul-add}
use native.Mathlib.Omega.{arith}
use lib.Dec.{eqb, leb}
use lib.ListN.{length}
use lib.Pow.{pow_pos}
use borrow.Author.Tests.{eq-eqb, eqb-true, leb-true}
use Rattle.scope.specs.Lists.{at, member, passes}
use Rattle.scope.specs.Cells.{resolution_of, base_cell, weight, pentagon_base_cells, is_pentagon}
use Rattle.scope.proofs.Tests.{either, clash, and_left, and_right, and_both, and_false, le_or_lt}
use Rattle.scope.proofs.Scan.{passes_at, passes_all}
use Rattle.scope.proofs.Tables.{Ascending}
use Rattle.index.proofs.Prefix.{pentagon_at_once}
use Rattle.row_search.specs.Search.{RowsBelow}
use Rattle.edge_table.specs.Straight.{fields_kept, side_kept, NoSide, SidesAsk}

lower_zero : (a b d : ℕ) → 0 < d → a ≤ b → b / d ≡ 0 → a / d ≡ 0
lower_zero a b d p l e =
    let h : b < 0 * d + d = rw e at (lt-div-mul-add {a = b} {b = d} p) in
    div-eq_of_lt {n = a} {m = d} (omega arith)

-- a number no higher than a pentagon, with the same fields
lower_pentagon : (x y : ℕ) → y / 2 ^ 45 ≡ x / 2 ^ 45 → y ≤ x → is_pentagon x ≡ true → is_pentagon y ≡ true
lower_pentagon x y e l p =
    let both = sym (pentagon_at_once x) ∙ p in
    let zeros : Bool = eqb (x % 2 ^ 45 / weight (resolution_of x)) 0 in
    let lower : y % 2 ^ 45 ≤ x % 2 ^ 45 = omega arith in
    let resolution : resolution_of y ≡ resolution_of x = omega arith in
    let base : base_cell y ≡ base_cell x = omega arith in
    pentagon_at_once y
    ∙ and_both _ _
    (eq-eqb _ _ (ap (λ (r : ℕ). y % 2 ^ 45 / weight r) resolution ∙ lower_zero (y % 2 ^ 45) (x % 2 ^ 45) (weight (resolution_of x)) (pow_pos _) lower (eqb-true _ _ (and_left zeros _ both))))
    (ap (λ (b : ℕ). member b pentagon_base_cells) base ∙ and_right zeros _ both)

abbrev is_side : ℕ → Bool
is_side x = is_pentagon x && eqb (x / 2 ^ 56) 17

lower_side : (x y : ℕ) → y / 2 ^ 45 ≡ x / 2 ^ 45 → y ≤ x → is_side x ≡ true → is_side y ≡ true
lower_side x y e l p =
    let top = eqb-true (x / 2 ^ 56) 17 (and_right (is_pentagon x) _ p) in
    and_both _ _ (lower_pentagon x y e l (and_left (is_pentagon x) _ p)) (eq-eqb (y / 2 ^ 56) 17 (omega arith))

never_side : (x : ℕ) → (is_side x ≡ true → ⊥) → not (is_side x) ≡ true
never_side x n = ⊎_elim (λ (e : is_side x ≡ true). absurd (n e)) (λ (e : is_side x ≡ false). ap not e) (either (is_side x))

module _ (es : List ℕ) (fields : ℕ) where
  pub side_none : is_pentagon (fields * 2 ^ 45) ≡ false → NoSide es fields
  side_none e = record {
    none = λ k h f. never_side (at es k) (λ p.
        clash (lower_pentagon (at es k) (fields * 2 ^ 45) (omega arith) (omega arith) (and_left (is_pentagon (at es k)) _ p)) e);
  }

  module _ {row : ℕ} (R : RowsBelow es (fields * 2 ^ 45) row) where
    not_below : (k : ℕ) → at es k / 2 ^ 45 ≡ fields → row ≤ k
    not_below k f = ⊎_elim (λ (l : row ≤ k). l) (λ (l : k < row). absurd (let b = R.below k l in omega arith)) (le_or_lt row k)

    pub side_past : length es ≤ row → NoSide es fields
    side_past l = record { none = λ k h f. absurd (let b = not_below k f in omega arith) }

    pub side_first : Ascending es → row < length es → is_side (at es row) ≡ false → NoSide es fields
    side_first asc l e = record {
      none = λ k h f. never_side (at es k) (λ p.
          let b = not_below k f in
          let a = R.above row (omega arith) l in
          let upto : at es row ≤ at es k = ⊎_elim (λ (q : row ≡ k). rw q (omega arith)) (λ (q : row < k). let o = asc.order row k q h in omega arith) (eq-or-lt_of_le b) in
          clash (lower_side (at es k) (at es row) (omega arith) upto p) e);
    }

-- ---- every base cell

module _ {es : List ℕ} {target : ℕ} (A : SidesAsk es target) (none : (base : ℕ) → base < 122 → NoSide es ((272 + target) * 128 + base)) where
  kept : (k : ℕ) → k < length es → eqb (at es k / 2 ^ 56) 17 ≡ true → side_kept es k ≡ true
  kept k h e =
      let both : (eqb (resolution_of (at es k)) target && leb (base_cell (at es k)) 121) ≡ true = passes_at (fields_kept target es) (length es) A.fields k h in
      let r : resolution_of (at es k) ≡ target = eqb-true _ _ (and_left _ (leb (base_cell (at es k)) 121) both) in
      let b : base_cell (at es k) ≤ 121 = leb-true _ _ (and_right (eqb (resolution_of (at es k)) target) _ both) in
      let t : at es k / 2 ^ 56 ≡ 17 = eqb-true _ _ e in
      (none (base_cell (at es k)) (omega arith)).none k h (omega arith)

  pub sides_done : passes (side_kept es) (length es) ≡ true
  sides_done = passes_all (side_kept es) (length es) (λ k h. ⊎_elim
      (λ (e : eqb (at es k / 2 ^ 56) 17 ≡ true). kept k h e)
      (λ (e : eqb (at es k / 2 ^ 56) 17 ≡ false). ap not (ap (λ (b : Bool). is_pentagon (at es k) && b) e ∙ and_false (is_pentagon (at es k))))
      (either (eqb (at es k / 2 ^ 56) 17)))
