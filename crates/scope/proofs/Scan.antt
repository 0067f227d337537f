-- Scans: the laws of `first_bad` and `passes`, proved once and cited by every scan of the code.
--     Lowest ok n r     r is the lowest number below n at which the test fails, or n; `first_bad` is the one such number
--     Going ok n i      what a loop has shown when it stands at i: its invariant, whole
--     going_start, going_more, going_stop, going_done     a loop's moves: begin, pass a number, stop at a bad one, come to the end
--     going_false, going_true     the last two for a function that answers `passes ok n`
-- Assumes nothing.
use Prim.Native.Nat.{ℕ, zero, suc, ◌+◌, ◌<◌, ◌≤◌}
use mathlib.Core.Path.{◌≡◌, sym, ◌∙◌, ap, subst}
use mathlib.Core.Bool.{Bool, true, false}
use mathlib.Core.Logic.{⊎_elim}
use native.Mathlib.Nat.{eq-or-lt_of_le}
use native.Mathlib.Omega.{arith}
use borrow.Author.Tests.{eq-eqb, ne_eqb, eqb-true, eqb-false}
use Rattle.scope.specs.Lists.{from, first_bad, passes}
use Rattle.scope.proofs.Tests.{either, clash}

-- r is the lowest index below n at which the test fails, or n
pub record Lowest (ok : ℕ → Bool) (n r : ℕ) : Type 0 where
  pub within : r ≤ n
  pub before : (k : ℕ) → k < r → ok k ≡ true
  pub here : r < n → ok r ≡ false

pub not_lower : {ok : ℕ → Bool} {n r s : ℕ} → Lowest ok n r → Lowest ok n s → r < s → ⊥
not_lower {ok} {n} {r} {s} L M h = clash (M.before r h) (L.here (omega (arith, M.within)))

pub lowest_unique : {ok : ℕ → Bool} {n r s : ℕ} → Lowest ok n r → Lowest ok n s → r ≡ s
lowest_unique L M = let p = not_lower L M in let q = not_lower M L in omega arith

from_lowest : (ok : ℕ → Bool) (n i : ℕ) → ((k : ℕ) → k < i → ok k ≡ true) → Lowest ok (i + n) (from ok n i)
unfolding from
from_lowest ok zero i p = record { within = omega arith; before = p; here = λ h. absurd (omega arith) }
from_lowest ok (suc n) i p = ⊎_elim
    (λ e. rw e (subst (λ (m : ℕ). Lowest ok m (from ok n (suc i))) (omega arith)
    (from_lowest ok n (suc i) (λ k h. let g : k ≤ i = omega arith in ⊎_elim (λ q. ap ok q ∙ e) (λ l. p k l) (eq-or-lt_of_le g)))))
    (λ e. rw e (record { within = omega arith; before = p; here = λ _. e }))
    (either (ok i))

module _ (ok : ℕ → Bool) (n : ℕ) where
  pub first_bad_lowest : Lowest ok n (first_bad ok n)
  unfolding first_bad
  first_bad_lowest = subst (λ (m : ℕ). Lowest ok m (from ok n 0)) (omega arith) (from_lowest ok n 0 (λ k h. absurd (omega arith)))

  pub first_bad_is : {r : ℕ} → Lowest ok n r → r ≡ first_bad ok n
  first_bad_is L = lowest_unique L first_bad_lowest

  -- every index passes, or a lowest one fails
  pub passes_at : passes ok n ≡ true → (k : ℕ) → k < n → ok k ≡ true
  passes_at e k h = first_bad_lowest.before k (let q = eqb-true (first_bad ok n) n e in omega arith)

  pub passes_all : ((k : ℕ) → k < n → ok k ≡ true) → passes ok n ≡ true
  passes_all p = eq-eqb (first_bad ok n) n (sym (first_bad_is (record { within = omega arith; before = p; here = λ h. absurd (omega arith) })))

-- one index fails
pub passes_not : (ok : ℕ → Bool) (n k : ℕ) → k < n → ok k ≡ false → passes ok n ≡ false
passes_not ok n k h e = ne_eqb (first_bad ok n) n (λ q. clash ((first_bad_lowest ok n).before k (omega arith)) e)

-- where not every index passes, the lowest failure is below n
pub passes_fails : (ok : ℕ → Bool) (n : ℕ) → passes ok n ≡ false → first_bad ok n < n
passes_fails ok n e = let q = eqb-false (first_bad ok n) n e in omega (arith, (first_bad_lowest ok n).within)

-- a test's lowest failure is r: below r none fails, and r fails or is n
pub lowest_from : (ok : ℕ → Bool) (n r : ℕ) → r ≤ n → ((k : ℕ) → k < n → ok k ≡ false → r ≤ k) → (r < n → ok r ≡ false) → r ≡ first_bad ok n
lowest_from ok n r w f h = first_bad_is ok n (record {
  within = w;
  before = λ k l. ⊎_elim (λ t. t) (λ t. absurd (let z = f k (omega arith) t in omega arith)) (either (ok k));
  here = h;
})

-- tests that agree below n have the same lowest failure
pub first_bad_same : (ok ko : ℕ → Bool) (n : ℕ) → ((k : ℕ) → k < n → ok k ≡ ko k) → first_bad ok n ≡ first_bad ko n
first_bad_same ok ko n e =
    let L = first_bad_lowest ok n in
    first_bad_is ko n (record {
      within = L.within;
      before = λ k h. sym (e k (omega (arith, L.within))) ∙ L.before k h;
      here = λ h. sym (e (first_bad ok n) h) ∙ L.here h;
    })

-- ---- a loop that goes up by one, and answers the lowest failure, or whether there is none

-- what it has shown when it stands at i
pub record Going (ok : ℕ → Bool) (n i : ℕ) : Type 0 where
  pub within : i ≤ n
  pub passed : (k : ℕ) → k < i → ok k ≡ true

pub going_start : {ok : ℕ → Bool} {n : ℕ} → Going ok n 0
going_start = record { within = omega arith; passed = λ k h. absurd (omega arith) }

module _ {ok : ℕ → Bool} {n i : ℕ} (g : Going ok n i) where
  pub going_more : i < n → ok i ≡ true → Going ok n (i + 1)
  going_more h e = record {
    within = omega arith;
    passed = λ k l. let m : k ≤ i = omega arith in ⊎_elim (λ q. ap ok q ∙ e) (λ s. g.passed k s) (eq-or-lt_of_le m);
  }

  pub going_stop : i < n → ok i ≡ false → i ≡ first_bad ok n
  going_stop h e = first_bad_is ok n (record { within = g.within; before = g.passed; here = λ _. e })

  pub going_done : n ≤ i → i ≡ first_bad ok n
  going_done h = first_bad_is ok n (record { within = g.within; before = g.passed; here = λ l. absurd (omega arith) })

  pub going_false : i < n → ok i ≡ false → false ≡ passes ok n
  going_false h e = let q = going_stop h e in sym (ne_eqb (first_bad ok n) n (λ z. omega arith))

  pub going_true : n ≤ i → true ≡ passes ok n
  going_true h = let q = going_done h in let w = g.within in sym (eq-eqb (first_bad ok n) n (omega arith))
