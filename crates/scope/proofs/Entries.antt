-- A rule of a table of numbers, proved at all of its entries by one test that antt computes.
--     entry          the test passes of a place and the entry there
--     entry_below    every entry is below m, and so is 0 past the end
--     beq_eq         two tests agree where the test `Bool.beq` says so
-- Assumes nothing.
use mathlib.Core.Path.{◌≡◌, refl, ◌∙◌, ap, sym}
use mathlib.Core.Bool.{Bool, true, false, ◌&&◌, beq}
use mathlib.Core.List.{List, [], ◌∷◌}
use Prim.Native.Nat.{ℕ, zero, suc, ◌+◌, ◌<◌}
use native.Mathlib.Omega.{arith}
use lib.Dec.{ltb}
use lib.ListN.{length}
use borrow.Author.Tests.{ltb-true}
use Rattle.scope.specs.Lists.{at}
use Rattle.scope.proofs.Tests.{and_left, and_right}

-- the test passes of each place, counted from i, and its entry
unfoldable pub every : (ℕ → ℕ → Bool) → ℕ → List ℕ → Bool
every f i [] = true
every f i (x ∷ xs) = f i x && every f (suc i) xs

from : (f : ℕ → ℕ → Bool) (xs : List ℕ) (i k j : ℕ) → every f i xs ≡ true → j ≡ i + k → k < length xs → f j (at xs k) ≡ true
unfolding every
from f [] i k j t e h = absurd (omega arith)
from f (x ∷ xs) i zero j t e h = ap (λ (m : ℕ). f m x) (let a : j ≡ i = omega arith in a) ∙ and_left _ _ t
from f (x ∷ xs) i (suc k) j t e h = from f xs (suc i) k j (and_right (f i x) _ t) (omega arith) (omega arith)

pub entry : (f : ℕ → ℕ → Bool) (xs : List ℕ) → every f 0 xs ≡ true → (k : ℕ) → k < length xs → f k (at xs k) ≡ true
entry f xs t k h = from f xs 0 k k t (omega arith) h

unfoldable pub all_below : ℕ → List ℕ → Bool
all_below m [] = true
all_below m (y ∷ ys) = ltb y m && all_below m ys

pub entry_below : (m : ℕ) → 0 < m → (l : List ℕ) → all_below m l ≡ true → (p : ℕ) → at l p < m
unfolding all_below
entry_below m h [] e p = h
entry_below m h (y ∷ ys) e zero = ltb-true _ _ (and_left _ _ e)
entry_below m h (y ∷ ys) e (suc p) = entry_below m h ys (and_right (ltb y m) _ e) p

-- two tests that agree, as a test
pub beq_eq : (a b : Bool) → beq a b ≡ true → a ≡ b
beq_eq true true e = refl
beq_eq true false e = sym e
beq_eq false true e = e
beq_eq false false e = refl
