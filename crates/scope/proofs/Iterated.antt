-- What the library's `all`, `any`, `contains`, `position` and `find` answer over a slice or over a range is what a scan by index answers.
--     all_scan, fold_scan, any_scan, position_scan     over a slice: every member passes, twice, none does, the place of the first that does
--     all_range, fold_range, find_range                over the numbers below n: every one passes, twice, the lowest that fails
--     none_range                                       what holds at each of them where none is found
-- Assumes nothing.
use Prim.Native.Nat.{ℕ, ◌<◌, ◌≤◌}
use mathlib.Core.Path.{◌≡◌, refl, sym, ◌∙◌, ap, subst}
use mathlib.Core.Bool.{Bool, true, false, not, cond, ◌&&◌}
use mathlib.Core.Logic.{⊎_elim}
use mathlib.Core.List.{List, [], ◌∷◌}
use native.Mathlib.Omega.{arith}
use lib.Dec.{eqb, ltb}
use lib.ListN.{length, get_or}
use borrow.Author.Tests.{lt-ltb, le-ltb}
use Rattle.std.specs.Prelude.{Option, Some, None, MatchOption}
use Rattle.std.specs.Bool.{MatchBool}
use Rattle.std.specs.List.{list_all, list_any, prefix_len, position_or_len, range_with_len, fold, AllWithin}
use Rattle.std.proofs.lemmas.List.FromFn.{length-range_with_len, get_or-range_with_len}
use Rattle.std.proofs.lemmas.List.Sums.{prefix_len-le-length, prefix_len_passes, prefix_len_stops}
use Rattle.std.proofs.lemmas.Bool.Decides.{nat_tests}
use Rattle.scope.specs.Lists.{first_bad, passes}
use Rattle.scope.specs.Answers.{found_below}
use Rattle.scope.proofs.Tests.{either}
use Rattle.scope.proofs.Scan.{first_bad_is}

-- ---- the library's words

list_all_prefix : {X : Type 0} (test : X → Bool) (xs : List X) → list_all test xs ≡ eqb (prefix_len test xs) (length xs)
list_all_prefix test [] = refl
list_all_prefix test (x ∷ xs) = let ih = list_all_prefix test xs in ⊎_elim
    (λ (e : test x ≡ true). rw (e, ih) (grind (arith, nat_tests)))
    (λ (e : test x ≡ false). rw e (grind (arith, nat_tests)))
    (either (test x))

list_any_none : {X : Type 0} (test : X → Bool) (xs : List X) → list_any test xs ≡ not (list_all (λ x. not (test x)) xs)
list_any_none test [] = refl
list_any_none test (x ∷ xs) = let ih = list_any_none test xs in ⊎_elim
    (λ (e : test x ≡ true). rw e refl)
    (λ (e : test x ≡ false). rw e ih)
    (either (test x))

fold_all : {X : Type 0} (test : X → Bool) (b : Bool) (xs : List X) → fold (λ kept x. kept && test x) b xs ≡ (b && list_all test xs)
fold_all test true [] = refl
fold_all test false [] = refl
fold_all test true (x ∷ xs) = fold_all test (test x) xs
fold_all test false (x ∷ xs) = fold_all test false xs

-- ---- over a slice, whose members pass where their places do

module _ {X : Type 0} (d : X) (test : X → Bool) (ok : ℕ → Bool) (xs : List X) (same : (k : ℕ) → k < length xs → test (get_or xs k d) ≡ ok k) where
  first_bad_prefix : prefix_len test xs ≡ first_bad ok (length xs)
  first_bad_prefix = first_bad_is ok (length xs) (record {
    within = prefix_len-le-length test xs;
    before = λ k h. let w = prefix_len-le-length test xs in sym (same k (omega arith)) ∙ prefix_len_passes test xs k d h;
    here = λ h. sym (same (prefix_len test xs) h) ∙ prefix_len_stops test xs d h;
  })

  pub all_scan : list_all test xs ≡ passes ok (length xs)
  all_scan = list_all_prefix test xs ∙ ap (λ (r : ℕ). eqb r (length xs)) first_bad_prefix

  pub fold_scan : fold (λ kept x. kept && test x) true xs ≡ passes ok (length xs)
  fold_scan = fold_all test true xs ∙ all_scan

-- ---- over a slice, whose members fail where their places pass

not_not : (b : Bool) → not (not b) ≡ b
not_not true = refl
not_not false = refl

module _ {X : Type 0} (d : X) (test : X → Bool) (ok : ℕ → Bool) (xs : List X) (same : (k : ℕ) → k < length xs → not (test (get_or xs k d)) ≡ ok k) where
  pub any_scan : not (list_any test xs) ≡ passes ok (length xs)
  any_scan = ap not (list_any_none test xs) ∙ not_not _ ∙ all_scan d (λ x. not (test x)) ok xs same

  pub position_scan : cond (ltb (position_or_len test xs) (length xs)) (Some (position_or_len test xs)) None ≡ found_below (length xs) (first_bad ok (length xs))
  position_scan = ap (λ (r : ℕ). cond (ltb r (length xs)) (Some r) None) (first_bad_prefix d (λ x. not (test x)) ok xs same)

-- ---- over the numbers below n

module _ (ok : ℕ → Bool) (n : ℕ) where
  pub all_range : list_all ok (range_with_len 0 n) ≡ passes ok n
  all_range = subst (λ (m : ℕ). list_all ok (range_with_len 0 n) ≡ passes ok m) (length-range_with_len 0 n)
      (all_scan 0 ok ok (range_with_len 0 n) (λ k h. let l = length-range_with_len 0 n in ap ok (get_or-range_with_len 0 n k 0 (omega arith) ∙ omega arith)))

  pub fold_range : fold (λ kept x. kept && ok x) true (range_with_len 0 n) ≡ passes ok n
  fold_range = fold_all ok true (range_with_len 0 n) ∙ all_range

  pub find_range : (r : Option ℕ)
      → MatchOption r ((k : ℕ) → 0 ≤ k → k < n → ok k ≡ true) (λ i. (0 ≤ i) × (i < n) × (ok i ≡ false) × ((k : ℕ) → 0 ≤ k → k < i → ok k ≡ true))
      → r ≡ found_below n (first_bad ok n)
  find_range None p =
      let e : n ≡ first_bad ok n = first_bad_is ok n (record { within = omega arith; before = λ k h. p k (omega arith) h; here = λ h. absurd (omega arith) }) in
      rw (← e, le-ltb n n (omega arith)) refl
  find_range (Some i) p =
      let l : i < n = p.1 in
      let e : i ≡ first_bad ok n = first_bad_is ok n (record { within = omega arith; before = λ k h. p.3 k (omega arith) h; here = λ _. p.2 }) in
      rw (← e, lt-ltb i n l) refl

-- what holds at each number below n where `any` answers false
pub none_range : (Found : Type 0) (No : ℕ → Type 0) (n : ℕ) (r : Bool)
    → MatchBool r Found (AllWithin No (range_with_len 0 n) 0 (length (range_with_len 0 n))) → r ≡ false → (k : ℕ) → k < n → No k
none_range Found No n true m e k h = let z : ◌≡◌ {A = ℕ} 0 1 = cc in absurd (omega arith)
none_range Found No n false m e k h =
    let l = length-range_with_len 0 n in
    subst No (get_or-range_with_len 0 n k 0 h ∙ omega arith) (m k 0 (omega arith) (omega arith))
