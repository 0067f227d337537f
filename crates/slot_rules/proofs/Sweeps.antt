-- Loops over a whole slice with no early end.
--     Sweeping, sweeping_start, -more, -done     `kept` says whether a test holds at every number so far
--     count_below                                how many numbers pass, as a count over the list
--     all_passes                                 whether all pass, as `all` over a range
-- Assumes nothing.
use Prim.Native.Nat.{ℕ, zero, suc, ◌+◌, ◌<◌, ◌≤◌}
use mathlib.Core.Path.{◌≡◌, refl, sym, ◌∙◌, ap}
use mathlib.Core.Bool.{Bool, true, false, ◌&&◌}
use mathlib.Core.Logic.{⊎_elim}
use native.Mathlib.Nat.{eq-or-lt_of_le}
use native.Mathlib.Omega.{arith}
use mathlib.Core.List.{List}
use native.Mathlib.Numerals.{add-one}
use lib.Dec.{eqb}
use lib.ListN.{length, take}
use lib.Seq.{take-length}
use borrow.Author.Tests.{eq-eqb, ne_eqb}
use Rattle.std.specs.List.{count_by, list_all, range_with_len}
use Rattle.std.proofs.lemmas.List.Sums.{count_by_more_yes, count_by_more_no}
use Rattle.scope.specs.Lists.{at, from, first_bad, below, passes}
use Rattle.scope.proofs.Tests.{either, clash, and_left, and_right}
use Rattle.scope.proofs.Scan.{passes_all, passes_not}
use Rattle.scope.proofs.Below.{below_no, count_yes}

pub record Sweeping (ok : ℕ → Bool) (n i : ℕ) (kept : Bool) : Type 0 where
  pub within : i ≤ n
  pub so_far : kept ≡ true → (k : ℕ) → k < i → ok k ≡ true
  pub failed : kept ≡ false → passes ok n ≡ false

pub sweeping_start : {ok : ℕ → Bool} {n : ℕ} → Sweeping ok n 0 true
sweeping_start = record { within = omega arith; so_far = λ _ k h. absurd (omega arith); failed = λ e. absurd (clash refl e) }

second_fails : (a b : Bool) → a ≡ true → (a && b) ≡ false → b ≡ false
second_fails true b t e = e
second_fails false b t e = absurd (clash t refl)

module _ {ok : ℕ → Bool} {n i : ℕ} {kept : Bool} (S : Sweeping ok n i kept) where
  pub sweeping_more : i < n → Sweeping ok n (i + 1) (kept && ok i)
  sweeping_more h = record {
    within = omega arith;
    so_far = λ e k l.
        let m : k ≤ i = omega arith in
        ⊎_elim (λ (q : k ≡ i). ap ok q ∙ and_right kept (ok i) e) (λ (g : k < i). S.so_far (and_left kept (ok i) e) k g) (eq-or-lt_of_le m);
    failed = λ e. ⊎_elim
        (λ (t : kept ≡ true). passes_not ok n i h (second_fails kept (ok i) t e))
        (λ (t : kept ≡ false). S.failed t)
        (either kept);
  }

  pub sweeping_done : n ≤ i → kept ≡ passes ok n
  sweeping_done h = ⊎_elim
      (λ (t : kept ≡ true). t ∙ sym (passes_all ok n (λ k l. S.so_far t k (omega arith))))
      (λ (t : kept ≡ false). t ∙ sym (S.failed t))
      (either kept)

-- ---- counted

none_counted : (ok : ℕ → Bool) → length (below ok 0) ≡ 0
unfolding below
none_counted ok = refl

count_upto : (ok : ℕ → Bool) (xs : List ℕ) (i : ℕ) → i ≤ length xs → count_by ok (take i xs) ≡ length (below (λ k. ok (at xs k)) i)
count_upto ok xs zero h = sym (none_counted (λ k. ok (at xs k)))
count_upto ok xs (suc i) h = ⊎_elim
    (λ (e : ok (at xs i) ≡ true). rw (← add-one i, count_by_more_yes ok xs i 0 (omega arith) e, count_upto ok xs i (omega arith)) (sym (count_yes (λ k. ok (at xs k)) i e)))
    (λ (e : ok (at xs i) ≡ false). rw (← add-one i, count_by_more_no ok xs i 0 (omega arith) e, count_upto ok xs i (omega arith)) (ap length (sym (below_no (λ k. ok (at xs k)) i e))))
    (either (ok (at xs i)))

pub count_below : (ok : ℕ → Bool) (xs : List ℕ) → count_by ok xs ≡ length (below (λ k. ok (at xs k)) (length xs))
count_below ok xs = rw take-length at (count_upto ok xs (length xs) (omega arith))

-- ---- every number below n

all_upto : (ok : ℕ → Bool) (n i : ℕ) → list_all ok (range_with_len i n) ≡ eqb (from ok n i) (i + n)
unfolding from
all_upto ok zero i = sym (eq-eqb i (i + 0) (omega arith))
all_upto ok (suc n) i = ⊎_elim
    (λ (e : ok i ≡ true). rw (e, add-one i) (all_upto ok n (suc i) ∙ ap (eqb (from ok n (suc i))) (omega arith)))
    (λ (e : ok i ≡ false). rw e (sym (ne_eqb i (i + suc n) (λ q. omega arith))))
    (either (ok i))

-- as `all` over a range answers
pub all_passes : (ok : ℕ → Bool) (n : ℕ) → list_all ok (range_with_len 0 n) ≡ passes ok n
unfolding first_bad
all_passes ok n = all_upto ok n 0 ∙ ap (eqb (from ok n 0)) (omega arith)
