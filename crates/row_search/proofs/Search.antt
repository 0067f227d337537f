-- The row of an edge by halving: the loop's invariant and its moves. How many turns it takes is in Turns.
--     Halving es e low left        the rows below low have smaller edges than e, those past the rows left have no smaller one
--     halving_start, halving_up, halving_down     begin; the middle is below e; it is not
--     halving_met                    no row is left
--     met_row, met_past              where the rows below e end there is a row, which is that of e if it holds it; or there is none
-- Assumes nothing.
use Prim.Native.Nat.{ℕ, ◌+◌, ◌-◌, ◌<◌, ◌≤◌}
use mathlib.Core.Path.{◌≡◌}
use mathlib.Core.Bool.{Bool, true, false}
use mathlib.Core.List.{List}
use mathlib.Core.Logic.{⊎_elim}
use native.Mathlib.Nat.{eq-or-lt_of_le}
use native.Mathlib.Omega.{arith}
use lib.Dec.{eqb, ltb}
use lib.ListN.{length}
use borrow.Author.Tests.{eqb-true, eqb-false, le-ltb}
use Rattle.std.specs.Prelude.{Some, None}
use Rattle.std.specs.Bool.{then_some}
use Rattle.scope.specs.Lists.{at}
use Rattle.scope.specs.Table.{find_row}
use Rattle.scope.proofs.Tests.{either, le_or_lt}
use Rattle.scope.proofs.Tables.{Ascending}
use Rattle.scope.proofs.RowSearch.{row_is, row_none, found_at, found_absent}
use Rattle.row_search.specs.Search.{RowsBelow}

pub record Halving (es : List ℕ) (e low left : ℕ) : Type 0 where
  pub within : low + left ≤ length es
  pub below : (k : ℕ) → k < low → at es k < e
  pub above : (k : ℕ) → low + left ≤ k → k < length es → e ≤ at es k

pub halving_start : {es : List ℕ} {e : ℕ} → Halving es e 0 (length es)
halving_start = record {
  within = omega arith;
  below = λ k h. absurd (omega arith);
  above = λ k h l. absurd (omega arith);
}

module _ {es : List ℕ} {e low left : ℕ} (asc : Ascending es) (h : Halving es e low left) where
  module _ (half : ℕ) (m : half < left) where
    most : (k : ℕ) → k ≤ low + half → at es k ≤ at es (low + half)
    most k l = ⊎_elim (λ q. rw q (omega arith)) (λ s. let w = asc.order k (low + half) s (omega (arith, h.within)) in omega arith) (eq-or-lt_of_le l)

    least : (k : ℕ) → low + half ≤ k → k < length es → at es (low + half) ≤ at es k
    least k l n = ⊎_elim (λ q. rw q (omega arith)) (λ s. let w = asc.order (low + half) k s n in omega arith) (eq-or-lt_of_le l)

    pub halving_up : at es (low + half) < e → Halving es e (low + half + 1) (left - (half + 1))
    halving_up t = record {
      within = omega (arith, h.within);
      below = λ k l. let w = most k (omega arith) in omega arith;
      above = λ k l n. h.above k (omega arith) n;
    }

    pub halving_down : e ≤ at es (low + half) → Halving es e low half
    halving_down t = record {
      within = omega (arith, h.within);
      below = h.below;
      above = λ k l n. let w = least k l n in omega arith;
    }

pub halving_met : {es : List ℕ} {e low left : ℕ} → Halving es e low left → left ≤ 0 → RowsBelow es e low
halving_met h met = record { within = omega (arith, h.within); below = h.below; above = λ k l n. h.above k (omega arith) n }

module _ {es : List ℕ} {e low : ℕ} (asc : Ascending es) (h : RowsBelow es e low) where
  met_at : at es low ≡ e → low < length es → Some low ≡ find_row es e
  met_at q l = found_at es e low (row_is es e asc low l q) l

  met_other : (at es low ≡ e → ⊥) → low < length es → None ≡ find_row es e
  met_other other l = found_absent es e (row_none es e (λ k i q.
      ⊎_elim
      (λ (a : low ≤ k).
      ⊎_elim (λ z. other (rw z q)) (λ s. let w = asc.order low k s i in let v = h.above low (omega arith) l in omega arith) (eq-or-lt_of_le a))
      (λ (b : k < low). let w = h.below k b in omega arith)
      (le_or_lt low k)))

  pub met_row : {found : Bool} → low < length es → found ≡ eqb (at es low) e → then_some found low ≡ find_row es e
  met_row l q = ⊎_elim
      (λ (t : eqb (at es low) e ≡ true). rw (q, t) (met_at (eqb-true _ _ t) l))
      (λ (f : eqb (at es low) e ≡ false). rw (q, f) (met_other (eqb-false _ _ f) l))
      (either (eqb (at es low) e))

  pub met_past : {found : Bool} → length es ≤ low → found ≡ ltb low (length es) → then_some found low ≡ find_row es e
  met_past l q = rw (q, le-ltb low (length es) l) (found_absent es e (row_none es e (λ k i q. let w = h.below k (omega arith) in omega arith)))
