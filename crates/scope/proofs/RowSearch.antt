-- The row of an edge: `row_of` is the lowest row that holds it, and in a table in order the only one.
--     row_holds                 below the row count it holds the edge
--     row_first, row_none       the lowest row that holds it, and the row count where none does
--     row_is                    in a table in order a row that holds the edge is its row
--     found_at, found_absent    what `find_row` answers in the two cases
-- Assumes nothing.
use Prim.Native.Nat.{ℕ, ◌<◌}
use mathlib.Core.Path.{◌≡◌, ap}
use mathlib.Core.Bool.{not}
use mathlib.Core.List.{List}
use native.Mathlib.Omega.{arith}
use lib.ListN.{length}
use borrow.Author.Tests.{eq-eqb, ne_eqb, eqb-true, lt-ltb, le-ltb, not-false}
use Rattle.std.specs.Prelude.{Some, None}
use Rattle.scope.specs.Lists.{at}
use Rattle.scope.specs.Table.{is_other, row_of, find_row}
use Rattle.scope.proofs.Scan.{Lowest, first_bad_lowest, first_bad_is}
use Rattle.scope.proofs.Tables.{Ascending}

module _ (es : List ℕ) (e : ℕ) where
  lowest : Lowest (is_other es e) (length es) (row_of es e)
  unfolding row_of
  lowest = first_bad_lowest (is_other es e) (length es)

  pub row_holds : row_of es e < length es → at es (row_of es e) ≡ e
  row_holds h = eqb-true _ _ (not-false _ (lowest.here h))

  -- the lowest that holds it
  pub row_first : (a : ℕ) → a < length es → at es a ≡ e → ((k : ℕ) → k < a → at es k ≡ e → ⊥) → a ≡ row_of es e
  unfolding row_of
  row_first a l q others = first_bad_is (is_other es e) (length es) (record {
    within = omega arith;
    before = λ k h. ap not (ne_eqb (at es k) e (others k h));
    here = λ _. ap not (eq-eqb (at es a) e q);
  })

  pub row_none : ((k : ℕ) → k < length es → at es k ≡ e → ⊥) → length es ≡ row_of es e
  unfolding row_of
  row_none others = first_bad_is (is_other es e) (length es) (record {
    within = omega arith;
    before = λ k h. ap not (ne_eqb (at es k) e (others k h));
    here = λ h. absurd (omega arith);
  })

  pub row_is : Ascending es → (a : ℕ) → a < length es → at es a ≡ e → a ≡ row_of es e
  row_is order a l q = row_first a l q (λ k h z. let w = order.order k a h l in omega arith)

  pub found_at : (r : ℕ) → r ≡ row_of es e → r < length es → Some r ≡ find_row es e
  unfolding find_row
  found_at r q l = rw (← q, lt-ltb r (length es) l)

  pub found_absent : length es ≡ row_of es e → None ≡ find_row es e
  unfolding find_row
  found_absent q = rw (← q, le-ltb (length es) (length es) (omega arith))
