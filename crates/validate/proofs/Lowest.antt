-- The lowest number at which a test fails, as an option: what `position` answers, and the lower of two.
-- Assumes nothing.
use Prim.Native.Nat.{ℕ, ◌<◌, ◌≤◌, min}
use mathlib.Core.Path.{◌≡◌, sym, ◌∙◌, ap}
use mathlib.Core.Bool.{Bool, true, false, not}
use mathlib.Core.List.{List}
use mathlib.Core.Logic.{⊎_elim}
use native.Mathlib.Decide.{dec_lt}
use native.Mathlib.Omega.{arith}
use lib.ListN.{length}
use borrow.Author.Tests.{lt-ltb, le-ltb}
use Rattle.std.specs.Prelude.{Option, None, Some}
use Rattle.std.specs.Option.{MatchOption}
use Rattle.std.specs.List.{position}
use Rattle.std.proofs.lemmas.List.Sums.{position_or_len_is}
use Rattle.scope.specs.Answers.{found_below}
use Rattle.scope.specs.Lists.{at, first_bad}
use Rattle.scope.proofs.Scan.{Lowest, Going, first_bad_lowest, first_bad_is}
use Rattle.scope.proofs.Tests.{le_or_lt}
use Rattle.validate.specs.Parts.{lowest, lower}

-- `position` looks for the first that fails the test
module _ (ok : ℕ → Bool) (xs : List ℕ) where
  abbrev passed : ℕ → Bool
  passed i = ok (at xs i)

  pub position_lowest : position (λ x. not (ok x)) xs ≡ lowest (λ i. ok (at xs i)) (length xs)
  position_lowest =
      let L = first_bad_lowest passed (length xs) in
      ap (found_below (length xs)) (position_or_len_is (λ x. not (ok x)) xs (first_bad passed (length xs)) 0 L.within (λ k h. ap not (L.before k h)) (λ h. ap not (L.here h)))

pub no_index : (n : ℕ) → found_below n n ≡ None
no_index n = rw (le-ltb n n (omega arith))

pub lower_is : (n a b : ℕ) → lower (found_below n a) (found_below n b) ≡ found_below n (min a b)
lower_is n a b = elim (dec_lt a n) [
  | yes h ↦ elim (dec_lt b n) [
    | yes g ↦ rw (lt-ltb a n h, lt-ltb b n g, lt-ltb (min a b) n (omega arith))
    | no g ↦ let e : min a b ≡ a = omega arith in rw (e, lt-ltb a n h, le-ltb b n (omega arith))
  ]
  | no h ↦ elim (dec_lt b n) [
    | yes g ↦ let e : min a b ≡ b = omega arith in rw (e, le-ltb a n (omega arith), lt-ltb b n g)
    | no g ↦ rw (le-ltb a n (omega arith), le-ltb b n (omega arith), le-ltb (min a b) n (omega arith))
  ]
]

-- what `find` answers over the numbers from `start` on, where none below it fails
pub find_lowest : (ok : ℕ → Bool) (n start : ℕ) (r : Option ℕ) → Going ok n start
    → MatchOption r ((k : ℕ) → start ≤ k → k < n → ok k ≡ true) (λ i. (start ≤ i) × (i < n) × (ok i ≡ false) × ((k : ℕ) → start ≤ k → k < i → ok k ≡ true))
    → r ≡ lowest ok n
find_lowest ok n start None G m = sym (ap (found_below n) (sym (first_bad_is ok n L)) ∙ no_index n)
  where
    L : Lowest ok n n
    L = record { within = omega arith; before = λ k h. ⊎_elim (λ (l : start ≤ k). m k l h) (λ (l : k < start). G.passed k l) (le_or_lt start k); here = λ h. absurd (omega arith) }
find_lowest ok n start (Some i) G m = sym (ap (found_below n) (sym (first_bad_is ok n L)) ∙ rw (lt-ltb i n m.1))
  where
    L : Lowest ok n i
    L = record { within = omega arith; before = λ k h. ⊎_elim (λ (l : start ≤ k). m.3 k l h) (λ (l : k < start). G.passed k l) (le_or_lt start k); here = λ h. m.2 }
