-- A list in order, by its places.
--     ascends_at        what stands at a place may stand before what stands at a later one
--     first_least       the first may stand before each of them
-- Assumes nothing.
use Prim.Native.Nat.{ℕ, zero, suc, ◌<◌}
use mathlib.Core.Path.{◌≡◌, sym, ◌∙◌, ap}
use mathlib.Core.Bool.{Bool, true}
use mathlib.Core.List.Memᴰ
use mathlib.Core.List.{List, [], ◌∷◌, Memᴰ}
use native.Mathlib.Omega.{arith}
use lib.ListN.{length}
use Rattle.scope.specs.Lists.{at, head_or}
use Rattle.scope.proofs.Members.{place}
use Rattle.scope.proofs.Orders.{Order, order_refl}
use Rattle.scope.proofs.Sorted.{Ascends}

module _ {le : ℕ → ℕ → Bool} (O : Order le) where
  pub ascends_at : (l : List ℕ) → Ascends le l → (i j : ℕ) → i < j → j < length l → le (at l i) (at l j) ≡ true
  ascends_at [] a i j h k = absurd (omega arith)
  ascends_at (x ∷ []) a i j h k = absurd (omega arith)
  ascends_at (x ∷ y ∷ l) a i zero h k = absurd (omega arith)
  ascends_at (x ∷ y ∷ l) a zero (suc zero) h k = a.0
  ascends_at (x ∷ y ∷ l) a zero (suc (suc j)) h k = O.trans x y (at l j) a.0 (ascends_at (y ∷ l) a.1 0 (suc j) (omega arith) (omega arith))
  ascends_at (x ∷ y ∷ l) a (suc i) (suc j) h k = ascends_at (y ∷ l) a.1 i j (omega arith) (omega arith)

  pub first_least : (d q : ℕ) (l : List ℕ) → Ascends le l → Memᴰ q l → le (head_or d l) q ≡ true
  first_least d q [] a i = absurd (Memᴰ.not-nil i)
  first_least d q (x ∷ l) a i = go (place i)
    where
      go : (j : ℕ) × (j < suc (length l)) × (at (x ∷ l) j ≡ q) → le x q ≡ true
      go (zero, h, e) = ap (le x) (sym e) ∙ order_refl O x
      go (suc j, h, e) = ap (le x) (sym e) ∙ ascends_at (x ∷ l) a 0 (suc j) (omega arith) h
