-- `member` of a table is a test of each of its numbers.
-- Assumes nothing.
use Prim.Native.Nat.{ℕ}
use mathlib.Core.Path.{◌≡◌, refl}
use mathlib.Core.List.{List, [], ◌∷◌}
use native.Mathlib.Omega.{arith}
use lib.Dec.{eqb}
use Rattle.std.proofs.lemmas.Bool.Decides.{nat_tests}
use Rattle.std.specs.List.{list_any}
use Rattle.scope.specs.Lists.{member}

pub member_tests : (x : ℕ) (l : List ℕ) → list_any (λ y. eqb y x) l ≡ member x l
unfolding member
member_tests x [] = refl
member_tests x (y ∷ l) = grind (arith, nat_tests, member_tests x l)
