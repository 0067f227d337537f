-- The tally of verdicts.
--     count_last                one more verdict at the end
--     tally_none, tally_next    no verdict; one more adds one at its number
--     count_most, counts_most   no count is above the number of verdicts, nor are two together
-- Assumes nothing.
use Prim.Native.Nat.{ℕ, suc, ◌+◌, ◌≤◌, ◌<◌}
use mathlib.Core.Path.{◌≡◌, refl, sym, ◌∙◌, ap}
use mathlib.Core.Bool.{Bool, true, false, cond}
use mathlib.Core.List.{List, [], ◌∷◌, ◌++◌}
use mathlib.Core.Logic.{◌≢◌}
use native.Mathlib.Omega.{arith}
use borrow.Author.Tests.{eq-eqb, ne_eqb, eqb-true}
use lib.Dec.{eqb}
use lib.ListN.{length, set, replicate, length-set}
use lib.Seq.{ext_get_or, get_or-set_same, get_or-set_other}
use Rattle.scope.specs.Lists.{at, tabulate_from}
use Rattle.scope.specs.Answers.{refusal_of, Verdict}
use Rattle.scope.proofs.Below.{tabulate_length, tabulate_at}
use Rattle.scope.proofs.Members.{cases}
use Rattle.audit.specs.Feed.{count_of, tally}

pub count_last : (k : ℕ) (vs : List Verdict) (v : Verdict) → count_of k (vs ++ (v ∷ [])) ≡ count_of k vs + cond (eqb (refusal_of v) k) 1 0
unfolding count_of
count_last k [] v = omega arith
count_last k (w ∷ vs) v = let e = count_last k vs v in omega arith

pub counts_most : (a b : ℕ) → a ≢ b → (vs : List Verdict) → count_of a vs + count_of b vs ≤ length vs
unfolding count_of
counts_most a b d [] = omega arith
counts_most a b d (v ∷ vs) = let e = counts_most a b d vs in omega (arith, one (eqb (refusal_of v) a) (eqb (refusal_of v) b) (λ p q. d (sym (eqb-true (refusal_of v) a p) ∙ eqb-true (refusal_of v) b q)))
  where
    one : (p q : Bool) → (p ≡ true → q ≡ true → ⊥) → cond p 1 0 + cond q 1 0 ≤ 1
    one true true n = absurd (n refl refl)
    one true false n = omega arith
    one false true n = omega arith
    one false false n = omega arith

pub count_most : (a : ℕ) (vs : List Verdict) → count_of a vs ≤ length vs
count_most a vs = let e = counts_most a (suc a) (λ q. omega arith) vs in omega arith

pub tally_length : (vs : List Verdict) → length (tally vs) ≡ 11
unfolding tally
tally_length vs = tabulate_length (λ k. count_of k vs) 0 11

pub tally_at : (vs : List Verdict) (k : ℕ) → k < 11 → at (tally vs) k ≡ count_of k vs
unfolding tally
tally_at vs k h = tabulate_at (λ k. count_of k vs) 11 k h

pub tally_none : replicate 11 0 ≡ tally []
unfolding tally tabulate_from count_of
tally_none = refl

module _ (vs : List Verdict) (v : Verdict) (h : refusal_of v < 11) where
  abbrev n : ℕ
  n = refusal_of v

  pub tally_next : set (tally vs) n (at (tally vs) n + 1) ≡ tally (vs ++ (v ∷ []))
  tally_next = ext_get_or 0 _ _ (length-set (tally vs) n _ ∙ tally_length vs ∙ sym (tally_length (vs ++ (v ∷ [])))) place
    where
      place : (i : ℕ) → i < length (set (tally vs) n (at (tally vs) n + 1)) → at (set (tally vs) n (at (tally vs) n + 1)) i ≡ at (tally (vs ++ (v ∷ []))) i
      place i l =
          let long = tally_length vs in
          let kept = length-set (tally vs) n (at (tally vs) n + 1) in
          let small : i < 11 = omega arith in
          let after : (k : ℕ) → k < 11 → at (tally (vs ++ (v ∷ []))) k ≡ count_of k vs + cond (eqb n k) 1 0 = λ k l. tally_at (vs ++ (v ∷ [])) k l ∙ count_last k vs v in
          cases i n
          (λ e. rw e (get_or-set_same (tally vs) n _ 0 (omega arith) ∙ ap (λ (k : ℕ). k + 1) (tally_at vs n h)
          ∙ sym (after n h ∙ ap (λ (b : Bool). count_of n vs + cond b 1 0) (eq-eqb n n refl))))
          (λ d. get_or-set_other (tally vs) n i _ 0 d ∙ tally_at vs i small
          ∙ sym (after i small ∙ ap (λ (b : Bool). count_of i vs + cond b 1 0) (ne_eqb n i (λ q. d (sym q))) ∙ (let z : count_of i vs + 0 ≡ count_of i vs = omega arith in z)))
