-- The free slots counted one by one.
-- Assumes nothing.
use mathlib.Core.Path.{◌≡◌, refl, sym, ap, ◌∙◌}
use mathlib.Core.Logic.{◌≢◌}
use mathlib.Core.Bool.{Bool, not}
use mathlib.Core.List.{List, [], ◌∷◌}
use Prim.Native.Nat.{ℕ, zero, suc, ◌+◌, ◌≤◌}
use native.Mathlib.Numerals.{add-one}
use native.Mathlib.Omega.{arith}
use lib.Dec.{eqb}
use lib.ListN.{length, take, length-append}
use lib.Seq.{take-length}
use borrow.Author.Tests.{eq-eqb, ne_eqb}
use Rattle.std.specs.List.{count_by, filter}
use Rattle.std.proofs.lemmas.List.Sums.{count_by_more_yes, count_by_more_no, length-filter}
use Rattle.scope.proofs.Members.{cases}
use Rattle.scope.specs.Lists.{at, below}
use Rattle.free_slots.specs.Search.{used_in}
use Rattle.placing.specs.Place.{free_in}

-- the free slots below i
abbrev free_below : List ℕ → ℕ → ℕ
free_below l i = length (below (λ s. not (used_in l s)) i)

free_none : (l : List ℕ) → free_below l 0 ≡ 0
unfolding below
free_none l = refl

free_yes : (l : List ℕ) (i : ℕ) → at l i ≡ 0 → free_below l (suc i) ≡ free_below l i + 1
unfolding below
free_yes l i e = rw (ap (λ (b : Bool). not (not b)) (eq-eqb (at l i) 0 e)) (length-append (below (λ s. not (used_in l s)) i) (i ∷ []) ∙ omega arith)

free_no : (l : List ℕ) (i : ℕ) → at l i ≢ 0 → free_below l (suc i) ≡ free_below l i
unfolding below
free_no l i u = rw (ap (λ (b : Bool). not (not b)) (ne_eqb (at l i) 0 u))

count_upto : (l : List ℕ) (i : ℕ) → i ≤ length l → count_by (λ x. eqb x 0) (take i l) ≡ free_below l i
count_upto l zero h = sym (free_none l)
count_upto l (suc i) h = cases (at l i) 0
    (λ e. rw (← add-one i, count_by_more_yes (λ x. eqb x 0) l i 0 (omega arith) (eq-eqb (at l i) 0 e), count_upto l i (omega arith), add-one i) (sym (free_yes l i e)))
    (λ d. rw (← add-one i, count_by_more_no (λ x. eqb x 0) l i 0 (omega arith) (ne_eqb (at l i) 0 d), count_upto l i (omega arith), add-one i) (sym (free_no l i d)))

-- as `filter` and `count` find them
pub filter_free : (l : List ℕ) → length (filter (λ x. eqb x 0) l) ≡ length (free_in l)
filter_free l = length-filter (λ x. eqb x 0) l ∙ rw take-length at (count_upto l (length l) (omega arith))
