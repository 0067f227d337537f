-- Sums over every number below a bound, and cases on whether two numbers are equal.
--     total_term       a term is at most the sum
--     total_same       sums of equal terms are equal
--     total_change     one term changed changes the sum by that
--     by_eq            two numbers are equal or not
-- Assumes nothing.
use mathlib.Core.Path.{◌≡◌, refl}
use mathlib.Core.Bool.{Bool, true, false}
use mathlib.Core.Logic.{⊎_elim}
use lib.Dec.{eqb}
use borrow.Author.Tests.{eqb-true, eqb-false}
use Prim.Native.Nat.{ℕ, zero, suc, ◌+◌, ◌≤◌, ◌<◌}
use native.Mathlib.Nat.{eq-or-lt_of_le, le_of_suc-le-suc}
use native.Mathlib.Omega.{arith}
use Rattle.scope.specs.Lists.{total}

pub total_term : (f : ℕ → ℕ) (n i : ℕ) → i < n → f i ≤ total f n
unfolding total
total_term f zero i h = omega arith
total_term f (suc n) i h =
    ⊎_elim (λ e. rw e (omega arith)) (λ l. omega (arith, total_term f n i l)) (eq-or-lt_of_le (le_of_suc-le-suc h))

pub total_same : (f g : ℕ → ℕ) (n : ℕ) → ((i : ℕ) → i < n → f i ≡ g i) → total f n ≡ total g n
unfolding total
total_same f g zero h = refl
total_same f g (suc n) h = omega (arith, total_same f g n (λ i l. h i (omega arith)), h n (omega arith))

pub total_change : (f g : ℕ → ℕ) (n j : ℕ) → j < n → ((i : ℕ) → i < n → (i ≡ j → ⊥) → f i ≡ g i) → total g n + f j ≡ total f n + g j
unfolding total
total_change f g zero j l h = omega arith
total_change f g (suc n) j l h =
    ⊎_elim
    (λ e. rw e (omega (arith, total_same f g n (λ i m. h i (omega arith) (λ q. omega arith)))))
    (λ m. omega (arith, total_change f g n j m (λ i p. h i (omega arith)), h n (omega arith) (λ q. omega arith)))
    (eq-or-lt_of_le (le_of_suc-le-suc l))

pub by_eq : {P : Type 0} (a b : ℕ) → (a ≡ b → P) → ((a ≡ b → ⊥) → P) → P
by_eq {P} a b f g = go (eqb a b) refl
  where
    go : (t : Bool) → eqb a b ≡ t → P
    go true e = f (eqb-true a b e)
    go false e = g (eqb-false a b e)
