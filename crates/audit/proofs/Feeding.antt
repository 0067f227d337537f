-- The loop over a feed: what it has counted, and what is still to be offered.
--     InFeed, feed_start, feed_next, feed_end     its invariant and its moves
-- Assumes nothing.
use Prim.Native.Nat.{ℕ, suc, ◌+◌, ◌≤◌, ◌<◌}
use mathlib.Core.Path.{◌≡◌, refl, sym, ◌∙◌, ap, subst}
use mathlib.Core.List.{List, [], ◌∷◌, ◌++◌, append-nil}
use native.Mathlib.Numerals.{add-one}
use native.Mathlib.Omega.{arith}
use lib.ListN.{length, set, drop, replicate, length-append, drop_of_length-le}
use lib.Seq.{drop-cons, append_snoc}
use Rattle.scope.specs.Lists.{at}
use Rattle.scope.specs.Answers.{refusal_of, Verdict}
use Rattle.scope.specs.Table.{Table}
use Rattle.scope.specs.Memory.{Memory}
use Rattle.scope.specs.Calls.{Outcome, offering, offer_verdict}
use Rattle.scope.proofs.Numbered.{number_most, offer_numbered}
use Rattle.audit.specs.Feed.{verdicts, left_by, tally, feeding, points_unchecked}
use Rattle.audit.proofs.Tally.{tally_none, tally_next, tally_at, count_most, counts_most}

-- the first i cells of the feed are offered, `done` are their verdicts, and m is what they left
pub record InFeed (t : Table) (m₀ : Memory) (xs : List ℕ) (m : Memory) (counts : List ℕ) (i : ℕ) : Type 0 where
  pub done : List Verdict
  pub within : i ≤ length xs
  pub many : length done ≡ i
  pub all : verdicts t m₀ xs ≡ done ++ verdicts t m (drop i xs)
  pub left : left_by t m₀ xs ≡ left_by t m (drop i xs)
  pub counted : counts ≡ tally done

pub feed_start : (t : Table) (m : Memory) (xs : List ℕ) → InFeed t m xs m (replicate 11 0) 0
feed_start t m xs = record { done = []; within = omega arith; many = refl; all = refl; left = refl; counted = tally_none }

-- an offer's verdict has a number of at most 10
pub offer_low : (t : Table) (m : Memory) (x : ℕ) {v : Verdict} {m' : Memory} → record { answer = v; left = m' } ≡ offering t m x → refusal_of v < 11
unfolding offering
offer_low t m x e = let n = number_most (offer_verdict t m x) (offer_numbered t m x) in subst (λ (w : Verdict). refusal_of w < 11) (sym (ap (λ (o : Outcome). o.answer) e)) (omega arith)

module _ {t : Table} {m₀ m : Memory} {xs counts : List ℕ} {i : ℕ} (I : InFeed t m₀ xs m counts i) where
  pub feed_end : length xs ≤ i → record { counts = counts; left = m } ≡ feeding t m₀ xs
  unfolding feeding verdicts left_by
  feed_end h =
      let none = drop_of_length-le xs {i = i} h in
      let over : verdicts t m₀ xs ≡ I.done = I.all ∙ ap (λ (l : List ℕ). I.done ++ verdicts t m l) none ∙ append-nil I.done in
      let last : left_by t m₀ xs ≡ m = I.left ∙ ap (left_by t m) none in
      rw (over, last, I.counted)

  -- accepted offers and replays are together no more than the cells
  pub feed_most : points_unchecked counts ≤ length xs
  feed_most =
      let most = counts_most 0 3 (λ (q : 0 ≡ 3). omega arith) I.done in
      let many = I.many in
      let within = I.within in
      rw (I.counted, tally_at I.done 0 (omega arith), tally_at I.done 3 (omega arith)) (omega arith)

  module _ (h : i < length xs) {v : Verdict} {m' : Memory} (q : record { answer = v; left = m' } ≡ offering t m (at xs i)) where
    low : refusal_of v < 11
    low = offer_low t m (at xs i) q

    pub feed_low : {n : ℕ} → n ≡ refusal_of v → (n < 11) × (at counts n ≤ i)
    feed_low e = rw e (low, (let n = count_most (refusal_of v) I.done in let k = I.many in rw (I.counted, tally_at I.done (refusal_of v) low) (omega arith)))

    pub feed_next : {n : ℕ} → n ≡ refusal_of v → InFeed t m₀ xs m' (set counts n (at counts n + 1)) (i + 1)
    unfolding verdicts left_by
    feed_next e =
        let next = drop-cons xs i 0 h in
        record {
          done = I.done ++ (v ∷ []);
          within = omega arith;
          many = length-append I.done (v ∷ []) ∙ (let k = I.many in omega arith);
          all = rw (add-one i) (I.all ∙ ap (λ (l : List ℕ). I.done ++ verdicts t m l) next
              ∙ ap (λ (o : Outcome). I.done ++ (o.answer ∷ verdicts t o.left (drop (suc i) xs))) (sym q)
              ∙ sym (append_snoc I.done v (verdicts t m' (drop (suc i) xs))));
          left = rw (add-one i) (I.left ∙ ap (left_by t m) next ∙ ap (λ (o : Outcome). left_by t o.left (drop (suc i) xs)) (sym q));
          counted = ap (λ (k : ℕ). set counts k (at counts k + 1)) e ∙ ap (λ (l : List ℕ). set l (refusal_of v) (at l (refusal_of v) + 1)) I.counted ∙ tally_next I.done v low;
        }
