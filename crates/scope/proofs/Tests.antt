-- Tests: how a test's value is told and put to use.
--     either, clash     a test is true or false, and not both
--     never             a test that cannot be true
--     same              two tests that follow from one another are equal
--     fails, holds      a call answers the test, and the branch is on its negation
--     and-..            the two sides of `&&`
--     all-..            the run of tests `all f n`, from n down to 1
-- Assumes nothing.
use Prim.Native.Nat.{ℕ, zero, suc, ◌<◌, ◌≤◌}
use mathlib.Core.Path.{◌≡◌, refl, sym, ◌∙◌, ap}
use mathlib.Core.Bool.{Bool, true, false, ◌&&◌, not}
use mathlib.Core.Logic.{◌⊎◌, inl, inr, ⊎_elim}
use native.Mathlib.Nat.{eq-or-lt_of_le}
use native.Mathlib.Decide.{dec_le}
use native.Mathlib.Omega.{arith}
use borrow.Author.Tests.{not-true, not-false}
use Rattle.scope.specs.Lists.{all}

pub either : (b : Bool) → (b ≡ true) ⊎ (b ≡ false)
either true = inl refl
either false = inr refl

pub clash : {b : Bool} → b ≡ true → b ≡ false → ⊥
clash p q = let z : ◌≡◌ {A = ℕ} 0 1 = cc in omega arith

pub never : (b : Bool) → (b ≡ true → ⊥) → b ≡ false
never true h = absurd (h refl)
never false h = refl

pub same : (a b : Bool) → (a ≡ true → b ≡ true) → (b ≡ true → a ≡ true) → a ≡ b
same true true p q = refl
same true false p q = sym (p refl)
same false true p q = q refl
same false false p q = refl

pub fails : {a b : Bool} → a ≡ b → not a ≡ true → b ≡ false
fails {a} e n = sym e ∙ not-true a n

pub holds : {a b : Bool} → a ≡ b → not a ≡ false → b ≡ true
holds {a} e n = sym e ∙ not-false a n

pub le_or_lt : (a b : ℕ) → (a ≤ b) ⊎ (b < a)
le_or_lt a b = elim (dec_le a b) [ yes p ↦ inl p | no n ↦ inr (omega arith) ]

-- ---- both of two tests

pub and_left : (a b : Bool) → (a && b) ≡ true → a ≡ true
and_left true b e = refl
and_left false b e = e

pub and_right : (a b : Bool) → (a && b) ≡ true → b ≡ true
and_right true b e = e
and_right false b e = cc

pub and_both : (a b : Bool) → a ≡ true → b ≡ true → (a && b) ≡ true
and_both true b p q = q
and_both false b p q = p

pub and_false : (b : Bool) → (b && false) ≡ false
and_false true = refl
and_false false = refl

pub and_true : (b : Bool) → (b && true) ≡ b
and_true true = refl
and_true false = refl

-- ---- a run of tests

-- a run that passes, passes at each number, and the other way round
pub all_at : (f : ℕ → Bool) (n : ℕ) → all f n ≡ true → (k : ℕ) → 0 < k → k ≤ n → f k ≡ true
unfolding all
all_at f zero e k p q = absurd (omega arith)
all_at f (suc n) e k p q =
    ⊎_elim
    (λ (i : k ≡ suc n). ap f i ∙ and_left _ _ e)
    (λ (l : k < suc n). all_at f n (and_right (f (suc n)) _ e) k p (omega arith))
    (eq-or-lt_of_le q)

pub all_from : (f : ℕ → Bool) (n : ℕ) → ((k : ℕ) → 0 < k → k ≤ n → f k ≡ true) → all f n ≡ true
unfolding all
all_from f zero p = refl
all_from f (suc n) p = and_both _ _ (p (suc n) (omega arith) (omega arith)) (all_from f n (λ k a b. p k a (omega arith)))

pub all_same : (f g : ℕ → Bool) (n : ℕ) → ((k : ℕ) → 0 < k → k ≤ n → f k ≡ g k) → all f n ≡ all g n
unfolding all
all_same f g zero e = refl
all_same f g (suc n) e = rw (e (suc n) (omega arith) (omega arith), all_same f g n (λ k p q. e k p (omega arith)))
