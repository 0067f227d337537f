-- The keys of a part's indices ascend, so that the cells before x come first: where they end is the first place from x on.
--     keys_part       the indices are parted by the key of x
--     first_place     where they are parted the test fails first
-- Assumes nothing.
use Prim.Native.Nat.{ℕ, ◌<◌, ◌≤◌}
use mathlib.Core.Path.{◌≡◌, sym, ◌∙◌, ap}
use mathlib.Core.Bool.{Bool, true, false}
use mathlib.Core.List.{List}
use native.Mathlib.Omega.{arith}
use lib.Dec.{ltb}
use lib.ListN.{length, take, get_or}
use Rattle.std.specs.List.Sorted.{IsPartitionedBy, IsPartitionPoint}
use Rattle.std.proofs.lemmas.List.{length-take-le, get_or-take}
use Rattle.std.proofs.lemmas.List.Sorted.{IsPartitionedBy-ltb, IsNonDecreasingBy-from_default}
use Rattle.scope.specs.Lists.{at, first_bad}
use Rattle.scope.proofs.Scan.{first_bad_is}
use Rattle.cell_lookup.specs.Order.{key_of}
use Rattle.cell_lookup.specs.Lookup.{Ascending, key_below}

abbrev pub stands_before : List ℕ → ℕ → ℕ → Bool
stands_before part x j = ltb (key_of (at part j)) (key_of x)

module _ {part a : List ℕ} (A : Ascending part a) (x : ℕ) where
  long : length (take (length part) a) ≡ length part
  long = length-take-le (length part) a A.room

  read : (k : ℕ) → k < length part → get_or (take (length part) a) k 0 ≡ at a k
  read k h = get_or-take (length part) a k 0 h

  pub keys_part : IsPartitionedBy (stands_before part x) (take (length part) a)
  keys_part = IsPartitionedBy-ltb (λ j. key_of (at part j)) (take (length part) a) (key_of x)
      (IsNonDecreasingBy-from_default (λ j. key_of (at part j)) (take (length part) a) 0
      (λ i j h l. let n = long in rw (read i (omega arith), read j (omega arith)) (A.order i j h (omega arith))))

  pub first_place : {r : ℕ} → r ≤ length (take (length part) a)
      → IsPartitionPoint (λ j. stands_before part x j ≡ true) (λ j. stands_before part x j ≡ false) (take (length part) a) r
      → r ≡ first_bad (key_below part a x) (length part)
  first_place {r} w p =
      let n = long in
      first_bad_is (key_below part a x) (length part) (record {
        within = omega arith;
        before = λ k h. ap (stands_before part x) (sym (read k (omega arith))) ∙ p.0 k 0 (omega arith) h;
        here = λ h. ap (stands_before part x) (sym (read r h)) ∙ p.1 r 0 (omega arith) (omega arith);
      })
