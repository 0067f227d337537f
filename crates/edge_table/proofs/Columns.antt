-- What the passes over the columns tell of the whole table.
--     columns_from      the passes over the columns, one by one
--     none_bad          where every column passes, every row does
-- Assumes nothing.
use Prim.Native.Nat.{ℕ, ◌-◌, ◌*◌, ◌/◌, ◌^◌, ◌<◌, ◌≤◌}
use mathlib.Core.Path.{◌≡◌, sym, ◌∙◌, ap}
use mathlib.Core.Bool.{Bool, true, ◌&&◌}
use mathlib.Core.List.{List}
use mathlib.Core.Logic.{⊎_elim}
use native.Mathlib.Nat.{eq-or-lt_of_le}
use native.Mathlib.Omega.{arith}
use lib.Dec.{eqb, leb}
use lib.ListN.{length}
use borrow.Author.Tests.{eqb-true, le-leb, leb-true}
use Rattle.scope.specs.Lists.{at, all, passes}
use Rattle.scope.specs.Cells.{resolution_of, base_cell, digit_fits, valid_edge}
use Rattle.scope.specs.Table.{Table, row_count, target_of, has_target, ascends, paired, row_good}
use Rattle.scope.proofs.Tests.{and_left, and_right}
use Rattle.scope.proofs.Scan.{passes_at, passes_all}
use Rattle.scope.proofs.Tables.{Ascending, ascending}
use Rattle.scope.proofs.Edges.{valid_edge_is}
use Rattle.index.proofs.Digits.{digits_fit}
use Rattle.edge_table.specs.Straight.{fields_kept, ones, sevens, sevens_kept, EdgesKept, side_kept, finite_at, Columns, NoneBad}

-- ---- digits

digits_at : (target x : ℕ) → resolution_of x ≡ target → eqb (sevens x) (ones / 2 ^ (3 * target)) ≡ all (digit_fits x) 15
digits_at target x e = ap (λ (r : ℕ). eqb (sevens x) (ones / 2 ^ (3 * r))) (sym e) ∙ digits_fit x

-- ---- top bytes

abbrev top : List ℕ → ℕ → ℕ
top es i = at es i / 2 ^ 56

module _ (es : List ℕ) (O : Ascending es) where
  tops_rise : (i j : ℕ) → i ≤ j → j < length es → top es i ≤ top es j
  tops_rise i j h l = ⊎_elim
      (λ (e : i ≡ j). rw e (omega arith))
      (λ (g : i < j). let o = O.order i j g l in omega arith)
      (eq-or-lt_of_le h)

-- ---- the whole table

pub columns_from : (t : Table) {f p k : Bool} → f ≡ passes (finite_at t.area) (length t.area) → p ≡ passes (paired t.reverse) (length t.reverse)
    → (k ≡ true → EdgesKept (ones / 2 ^ (3 * target_of t)) t.edges)
    → (leb 17 (top t.edges 0) && leb (top t.edges (row_count t - 1)) 22 && (f && p) && k) ≡ true → Columns t
columns_from t {f} {p} {k} ef ep ek e =
    record {
      first = leb-true 17 (top t.edges 0) (and_left low high tops);
      last = leb-true (top t.edges (row_count t - 1)) 22 (and_right low high tops);
      digits = kept.digits;
      order = kept.order;
      pairs = sym ep ∙ and_right f p both;
      finite = sym ef ∙ and_left f p both;
    }
  where
    low : Bool
    low = leb 17 (top t.edges 0)

    high : Bool
    high = leb (top t.edges (row_count t - 1)) 22

    tops : (low && high) ≡ true
    tops = and_left (low && high) (f && p) (and_left (low && high && (f && p)) k e)

    both : (f && p) ≡ true
    both = and_right (low && high) (f && p) (and_left (low && high && (f && p)) k e)

    kept : EdgesKept (ones / 2 ^ (3 * target_of t)) t.edges
    kept = ek (and_right (low && high && (f && p)) k e)

module _ (t : Table) (C : Columns t) (kept : passes (fields_kept (target_of t) t.edges) (row_count t) ≡ true) (sides : passes (side_kept t.edges) (row_count t) ≡ true) where
  abbrev es : List ℕ
  es = t.edges

  O : Ascending es
  O = ascending es C.order

  module _ (i : ℕ) (h : i < row_count t) where
    fields : (eqb (resolution_of (at es i)) (target_of t) && leb (base_cell (at es i)) 121) ≡ true
    fields = passes_at (fields_kept (target_of t) es) (row_count t) kept i h

    resolution : eqb (resolution_of (at es i)) (target_of t) ≡ true
    resolution = and_left _ (leb (base_cell (at es i)) 121) fields

    digits : all (digit_fits (at es i)) 15 ≡ true
    digits = sym (digits_at (target_of t) (at es i) (eqb-true _ _ resolution)) ∙ passes_at (sevens_kept (ones / 2 ^ (3 * target_of t)) es) (row_count t) C.digits i h

    valid : valid_edge (at es i) ≡ true
    valid =
        let low = tops_rise es O 0 i (omega arith) h in
        let high = tops_rise es O i (row_count t - 1) (omega arith) (omega arith) in
        valid_edge_is (at es i) ∙ rw (
          le-leb 17 (top es i) (omega (arith, C.first)),
          le-leb (top es i) 22 (omega (arith, C.last)),
          and_right (eqb (resolution_of (at es i)) (target_of t)) _ fields,
          digits,
        )
        (passes_at (side_kept es) (row_count t) sides i h)

  module _ (long : row_count t ≤ length t.reverse) (wide : row_count t ≤ length t.area) where
    good : (i : ℕ) → i < row_count t → row_good t i ≡ true
    unfolding row_good
    good i h =
        let p = passes_at (paired t.reverse) (length t.reverse) C.pairs i (omega arith) in
        let f = passes_at (finite_at t.area) (length t.area) C.finite i (omega arith) in
        rw (valid i h, passes_at (ascends es) (row_count t) C.order i h, p, f)

  pub none_bad : NoneBad t
  none_bad = record {
    targets = passes_all (has_target es) (row_count t) resolution;
    rows = λ long wide. passes_all (row_good t) (row_count t) (good long wide);
  }
