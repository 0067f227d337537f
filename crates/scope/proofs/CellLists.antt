-- A cell list that passes 2, 3, 4, the second 3 and 8, as facts at each index.
--     ListGood          the facts; `apart` holds in even mode too, where no cell is finer than another
--     list_good, list_accepted     a list passes exactly where it has them
--     invalid_first     2 is told before 3, 4 and 8
--     prefix_accepted   the first cells of a list that passes
-- Assumes nothing.
use Prim.Native.Nat.{ℕ, ◌<◌, ◌≤◌}
use mathlib.Core.Path.{◌≡◌, refl, sym, ◌∙◌, ap}
use mathlib.Core.Bool.{Bool, true, false, not, cond}
use mathlib.Core.List.{List, ◌++◌}
use mathlib.Core.Logic.{⊎_elim}
use native.Mathlib.Decide.{dec_lt}
use native.Mathlib.Omega.{arith}
use lib.Dec.{leb}
use lib.ListN.{length, get_or-append, length-append}
use borrow.Author.Tests.{eq-eqb, ne_eqb, lt-ltb, le-ltb, le-leb, eqb-true, leb-true}
use Rattle.scope.specs.declared.Refusal.TheVariants.{InvalidCell, DuplicateInput, UnsupportedResolution, TooManyCells}
use Rattle.std.specs.Prelude.{Err, Ok}
use Rattle.scope.specs.Lists.{at, first_bad}
use Rattle.scope.specs.Answers.{require_none, Verdict}
use Rattle.scope.specs.Cells.{resolution_of, valid_cell, under}
use Rattle.scope.specs.CellLists.{is_even, valid_at, differs, first_of_its_kind, resolution_fits, resolution_fits_at, not_under, under_none, in_mixed, list_verdict}
use Rattle.scope.proofs.Tests.{either, clash}
use Rattle.scope.proofs.Scan.{passes_at, passes_all, passes_not}
use Rattle.scope.proofs.Verdicts.{first_accepts, second_accepts, both_accept, require_holds, require_accepts, none_fails, none_accepts}

pub record ListGood (mode target capacity : ℕ) (cs : List ℕ) : Type 0 where
  pub valid : (i : ℕ) → i < length cs → valid_cell (at cs i) ≡ true
  pub once : (i j : ℕ) → i < length cs → j < length cs → at cs i ≡ at cs j → i ≡ j
  pub fits : (i : ℕ) → i < length cs → resolution_fits mode target (at cs i) ≡ true
  pub apart : (i j : ℕ) → i < length cs → j < length cs → under (at cs i) (at cs j) ≡ false
  pub room : length cs ≤ capacity

-- ---- equal cells

no_later : (cs : List ℕ) (i j : ℕ) → i < j → at cs i ≡ at cs j → first_of_its_kind cs j ≡ true → ⊥
no_later cs i j h e f = clash f (passes_not (differs cs (at cs j)) j i h (ap not (eq-eqb (at cs i) (at cs j) e)))

pub once_from : (cs : List ℕ) (n : ℕ) → ((i : ℕ) → i < n → first_of_its_kind cs i ≡ true) → (i j : ℕ) → i < n → j < n → at cs i ≡ at cs j → i ≡ j
once_from cs n f i j h l e = elim (dec_lt i j) [
  | yes y ↦ absurd (no_later cs i j y e (f j l))
  | no y ↦ elim (dec_lt j i) [
    | yes z ↦ absurd (no_later cs j i z (sym e) (f i h))
    | no z ↦ omega arith
  ]
]

first_from : (cs : List ℕ) (n : ℕ) → ((i j : ℕ) → i < n → j < n → at cs i ≡ at cs j → i ≡ j) → (i : ℕ) → i < n → first_of_its_kind cs i ≡ true
first_from cs n o i h = passes_all (differs cs (at cs i)) i (λ j l. ap not (ne_eqb (at cs j) (at cs i) (λ e. let z = o j i (omega arith) h e in omega arith)))

-- ---- cells under another

-- of two cells of one resolution neither lies under the other
pub none_finer : (a b : ℕ) → resolution_of a ≤ resolution_of b → under a b ≡ false
unfolding under
none_finer a b h = rw (le-ltb (resolution_of b) (resolution_of a) h)

pub not_under_itself : (a : ℕ) → under a a ≡ false
not_under_itself a = none_finer a a (omega arith)

one_resolution : (mode target x : ℕ) → is_even mode ≡ true → resolution_fits mode target x ≡ true → resolution_of x ≡ target
unfolding resolution_fits
one_resolution mode target x m e = eqb-true (resolution_of x) target (rw m at e)

not-true : (b : Bool) → not b ≡ true → b ≡ false
not-true true e = sym e
not-true false e = refl

-- ---- the whole list

module _ (mode target capacity : ℕ) (cs : List ℕ) where
  pub invalid_first : first_bad (valid_at cs) (length cs) < length cs → list_verdict mode target capacity cs ≡ Err (InvalidCell (first_bad (valid_at cs) (length cs)))
  unfolding list_verdict
  invalid_first h = rw (lt-ltb (first_bad (valid_at cs) (length cs)) (length cs) h)

  pub list_good : list_verdict mode target capacity cs ≡ Ok tt → ListGood mode target capacity cs
  unfolding list_verdict
  list_good e =
      let n : ℕ = length cs in
      let t₂ = first_accepts _ _ e in let e₃ = second_accepts (require_none InvalidCell n (first_bad (valid_at cs) n)) _ e in
      let t₃ = first_accepts _ _ e₃ in let e₄ = second_accepts (require_none DuplicateInput n (first_bad (first_of_its_kind cs) n)) _ e₃ in
      let t₄ = first_accepts _ _ e₄ in let e₅ = second_accepts (require_none UnsupportedResolution n (first_bad (resolution_fits_at mode target cs) n)) _ e₄ in
      let t₅ : in_mixed mode (require_none DuplicateInput n (first_bad (under_none cs) n)) ≡ (Ok tt) = first_accepts _ _ e₅ in
      let t₈ = second_accepts (in_mixed mode (require_none DuplicateInput n (first_bad (under_none cs) n))) _ e₅ in
      let fit = none_fails UnsupportedResolution (resolution_fits_at mode target cs) n t₄ in
      record {
        valid = none_fails InvalidCell (valid_at cs) n t₂;
        once = once_from cs n (none_fails DuplicateInput (first_of_its_kind cs) n t₃);
        fits = fit;
        apart = λ i j h l. ⊎_elim
            (λ (m : is_even mode ≡ true).
            let p = one_resolution mode target (at cs i) m (fit i h) in
            let q = one_resolution mode target (at cs j) m (fit j l) in
            none_finer (at cs i) (at cs j) (omega arith))
            (λ (m : is_even mode ≡ false).
            let t : require_none DuplicateInput n (first_bad (under_none cs) n) ≡ (Ok tt) = rw m at t₅ in
            not-true _ (passes_at (not_under cs (at cs i)) n (none_fails DuplicateInput (under_none cs) n t i h) j l))
            (either (is_even mode));
        room = leb-true n capacity (require_holds (leb n capacity) TooManyCells t₈);
      }

  pub list_accepted : ListGood mode target capacity cs → list_verdict mode target capacity cs ≡ Ok tt
  unfolding list_verdict
  list_accepted g =
      let n : ℕ = length cs in
      let nested : require_none DuplicateInput n (first_bad (under_none cs) n) ≡ (Ok tt) =
      none_accepts DuplicateInput (under_none cs) n (λ i h. passes_all (not_under cs (at cs i)) n (λ j l. ap not (g.apart i j h l))) in
      both_accept _ _ (none_accepts InvalidCell (valid_at cs) n g.valid)
      (both_accept _ _ (none_accepts DuplicateInput (first_of_its_kind cs) n (first_from cs n g.once))
      (both_accept _ _ (none_accepts UnsupportedResolution (resolution_fits_at mode target cs) n g.fits)
      (both_accept _ _ (mixed (is_even mode) _ nested) (require_accepts (leb n capacity) TooManyCells (le-leb n capacity g.room)))))
    where
      mixed : (b : Bool) (v : Verdict) → v ≡ Ok tt → cond b (Ok tt) v ≡ Ok tt
      mixed true v e = refl
      mixed false v e = e

pub prefix_accepted : (mode target capacity : ℕ) (cs ds : List ℕ) → list_verdict mode target capacity (cs ++ ds) ≡ Ok tt → list_verdict mode target capacity cs ≡ Ok tt
prefix_accepted mode target capacity cs ds e =
    let g = list_good mode target capacity (cs ++ ds) e in
    let s = length-append cs ds in
    let a : (i : ℕ) → i < length cs → at (cs ++ ds) i ≡ at cs i = λ i h. get_or-append cs ds 0 i h in
    list_accepted mode target capacity cs (record {
      valid = λ i h. rw (← a i h) (g.valid i (omega arith));
      once = λ i j h l q. g.once i j (omega arith) (omega arith) (a i h ∙ q ∙ sym (a j l));
      fits = λ i h. rw (← a i h) (g.fits i (omega arith));
      apart = λ i j h l. rw (← a i h, ← a j l) (g.apart i j (omega arith) (omega arith));
      room = let r = g.room in omega arith;
    })
