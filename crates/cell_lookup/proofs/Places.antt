-- Where a number stands among the first n of a list that are 0 to n − 1, each once.
-- Assumes nothing.
use Prim.Native.Nat.{ℕ, ◌<◌}
use mathlib.Core.Path.{◌≡◌, refl}
use mathlib.Core.Bool.{Bool, true, false, not}
use mathlib.Core.List.{List}
use lib.Dec.{eqb}
use borrow.Author.Tests.{eqb-true}
use Rattle.scope.specs.Lists.{at, first_bad}
use Rattle.scope.specs.CellLists.{differs}
use Rattle.scope.proofs.Scan.{first_bad_lowest}
use Rattle.cell_lookup.specs.Order.{place, Perm}

other_false : (a : List ℕ) (j k : ℕ) → differs a j k ≡ false → at a k ≡ j
other_false a j k e = go (eqb (at a k) j) refl e
  where
    go : (t : Bool) → eqb (at a k) j ≡ t → not t ≡ false → at a k ≡ j
    go true q _ = eqb-true (at a k) j q
    go false q w = cc

pub place_is : {n : ℕ} {a : List ℕ} → Perm n a → (j : ℕ) → j < n → at a (place n a j) ≡ j
place_is {n} {a} P j h = other_false a j (first_bad (differs a j) n) ((first_bad_lowest (differs a j) n).here (P.each j h))
