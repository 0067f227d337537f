-- The sums of ranks and of roots, as a loop adds them up: each rank fits 32 bits, so for fewer than 2^32 places the sums fit 64.
-- Assumes nothing.
use Prim.Native.Nat.{ℕ, ◌+◌, ◌*◌, ◌<◌, ◌≤◌, ◌^◌}
use mathlib.Core.Path.{◌≡◌, refl}
use mathlib.Core.Bool.{Bool, true, false, cond}
use mathlib.Core.List.{List}
use native.Mathlib.Numerals.{add-one}
use native.Mathlib.Omega.{arith}
use Rattle.scope.specs.Lists.{at, total}
use Rattle.scope.specs.Rules.{is_root, root_count}

pub record Summing (parent rank : List ℕ) (held place ranks roots : ℕ) : Type 0 where
  pub within : place ≤ held
  pub ranks_are : ranks ≡ total (at rank) place
  pub roots_are : roots ≡ root_count parent place
  pub ranks_fit : ranks ≤ place * 4294967295
  pub roots_fit : roots ≤ place

pub summing_start : {parent rank : List ℕ} {held : ℕ} → Summing parent rank held 0 0 0
unfolding total
summing_start = record { within = omega arith; ranks_are = refl; roots_are = refl; ranks_fit = omega arith; roots_fit = omega arith }

total_more : (f : ℕ → ℕ) (n : ℕ) → total f (n + 1) ≡ total f n + f n
unfolding total
total_more f n = rw add-one

pub one_or_none : (b : Bool) → cond b 1 0 ≤ 1
one_or_none true = omega arith
one_or_none false = omega arith

pub summing_more : {parent rank : List ℕ} {held place ranks roots r q : ℕ} → Summing parent rank held place ranks roots → place < held
    → r ≡ at rank place → r < 2 ^ 32 → q ≡ cond (is_root parent place) 1 0 → Summing parent rank held (place + 1) (ranks + r) (roots + q)
summing_more {parent} {rank} {held} {place} S h e l d =
    let o = one_or_none (is_root parent place) in
    record {
      within = omega arith;
      ranks_are = rw (total_more (at rank) place, ← S.ranks_are, ← e);
      roots_are = rw (total_more (λ i. cond (is_root parent i) 1 0) place, ← S.roots_are, ← d);
      ranks_fit = omega (arith, S.ranks_fit);
      roots_fit = omega (arith, S.roots_fit);
    }
