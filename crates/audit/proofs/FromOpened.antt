-- What an audit of a newly opened state comes to.
--     accepted_all     the accepted cells alone, offered in their order, are all accepted and leave the same memory
--     accepted_count   there are as many as the tally says
--     held_are         the held cells are the accepted ones
--     credited_once    as many are accepted as are held: one point is credited for each visit; `over_none`: none beyond
--     afresh_same      DISSOLVED AFRESH from the held cells, the answer and the outputs are those of read out
-- Assumes nothing.
use Prim.Native.Nat.{ℕ, ◌+◌}
use mathlib.Core.Path.{◌≡◌, refl, sym, ◌∙◌, ap}
use mathlib.Core.Bool.{◌&&◌, cond}
use mathlib.Core.List.{List, [], ◌∷◌}
use native.Mathlib.Omega.{arith}
use borrow.Author.Tests.{ne_eqb}
use lib.Dec.{eqb}
use lib.ListN.{length}
use Rattle.scope.specs.declared.Refusal.TheVariants.{BadLengths}
use Rattle.std.specs.Prelude.{Err, Ok}
use Rattle.scope.specs.Answers.{refusal_number, refusal_of, if_accepted, require, Verdict}
use Rattle.scope.specs.Table.{Table}
use Rattle.scope.specs.Memory.{Memory, Output, opened, held, held_cells, lengths_fit, mode_fits}
use Rattle.scope.specs.Pool.{taking}
use Rattle.scope.specs.Calls.{Outcome, outcome, open_verdict, offer_verdict, offering, offering_all, read_verdict, reading_out, dissolving}
use Rattle.scope.proofs.Numbered.{Numbered, offer_numbered}
use Rattle.scope.proofs.Dissolving.{inner_index, dissolve_is}
use Rattle.scope.proofs.Tests.{and_left}
use Rattle.scope.proofs.Verdicts.{first_accepts, second_accepts, require_holds}
use Rattle.scope.proofs.Lengths.{lengths_good}
use Rattle.scope.proofs.TakingCells.{Shown}
use Rattle.scope.proofs.Run.{opened_shown, all_shown}
use Rattle.audit.specs.Feed.{verdicts, left_by, accepted_of, count_of, tally, points_credited, points_over}
use Rattle.audit.proofs.Tally.{tally_at}

-- ---- the accepted cells alone

-- one more offer, where what comes after it is known from every memory
module _ (t : Table) (m : Memory) (x : ℕ) (xs : List ℕ) (on : (k : Memory) → offering_all t k (accepted_of t k xs) ≡ record { answer = Ok tt; left = left_by t k xs }) where
  one : (v : Verdict) (k : Memory) → offering t m x ≡ outcome v k m
      → offering_all t m (if_accepted v (x ∷ accepted_of t (if_accepted v k m) xs) (accepted_of t (if_accepted v k m) xs)) ≡ record { answer = Ok tt; left = left_by t (if_accepted v k m) xs }
  unfolding offering_all
  one (Ok done) k e = rw e (on k)
  one (Err why) k e = on m

  offered : offering_all t m (accepted_of t m (x ∷ xs)) ≡ record { answer = Ok tt; left = left_by t m (x ∷ xs) }
  unfolding offering accepted_of left_by
  offered = one (offer_verdict t m x) (taking t m x) refl

module _ (t : Table) where
  pub accepted_all : (m : Memory) (xs : List ℕ) → offering_all t m (accepted_of t m xs) ≡ record { answer = Ok tt; left = left_by t m xs }
  unfolding offering_all accepted_of left_by
  accepted_all m [] = refl
  accepted_all m (x ∷ xs) = offered t m x xs (λ k. accepted_all k xs)

  -- ---- as many are accepted as have the number 0

  counted : (v : Verdict) (x : ℕ) (l : List ℕ) (n : ℕ) → Numbered v → n ≡ length l → cond (eqb (refusal_of v) 0) 1 0 + n ≡ length (if_accepted v (x ∷ l) l)
  unfolding refusal_of
  counted (Ok done) x l n w e = omega arith
  counted (Err why) x l n w e = rw (ne_eqb (refusal_number why) 0 (λ q. let z = w.least in omega arith)) (omega arith)

  numbered : (m : Memory) (x : ℕ) → Numbered (offering t m x).answer
  unfolding offering
  numbered m x = offer_numbered t m x

  pub accepted_count : (m : Memory) (xs : List ℕ) → count_of 0 (verdicts t m xs) ≡ length (accepted_of t m xs)
  unfolding count_of verdicts accepted_of
  accepted_count m [] = refl
  accepted_count m (x ∷ xs) =
      counted (offering t m x).answer x (accepted_of t (offering t m x).left xs) _ (numbered m x) (accepted_count (offering t m x).left xs)

-- ---- from a newly opened state

module _ (t : Table) (m : Memory) (mode : ℕ) (opens : open_verdict t m mode ≡ Ok tt) (xs : List ℕ) where
  abbrev fresh : Memory
  fresh = opened mode m

  abbrev last : Memory
  last = left_by t fresh xs

  abbrev taken : List ℕ
  taken = accepted_of t fresh xs

  all_taken : (offering_all t fresh taken).answer ≡ Ok tt
  all_taken = ap (λ (o : Outcome). o.answer) (accepted_all t fresh xs)

  leaves_last : (offering_all t fresh taken).left ≡ last
  leaves_last = ap (λ (o : Outcome). o.left) (accepted_all t fresh xs)

  open_shown : Shown t fresh []
  unfolding open_verdict
  open_shown = opened_shown t m mode (second_accepts (require (lengths_fit t m && mode_fits mode) BadLengths) _ opens)
      (lengths_good t m (and_left (lengths_fit t m) (mode_fits mode) (require_holds _ BadLengths (first_accepts _ _ opens))))

  pub held_are : held_cells last ≡ taken
  held_are = rw leaves_last at (all_shown t fresh [] taken open_shown all_taken).shows.cells

  pub held_count : held last ≡ length taken
  held_count = rw leaves_last at (inner_index t m mode opens taken all_taken)

  -- one point is credited for each visit: as many are accepted as are held
  pub credited_once : points_credited (tally (verdicts t fresh xs)) ≡ held last
  credited_once = tally_at (verdicts t fresh xs) 0 (omega arith) ∙ accepted_count t fresh xs ∙ sym held_count

  pub over_none : points_over (held last) (tally (verdicts t fresh xs)) ≡ 0
  over_none = rw credited_once (omega arith)

  pub afresh_same : (o : Output) → read_verdict t last o ≡ Ok tt → dissolving t m mode (held_cells last) o ≡ reading_out t last o
  afresh_same o r = rw held_are (dissolve_is t m mode taken o opens all_taken (rw leaves_last r) ∙ ap (λ (k : Memory). reading_out t k o) leaves_last)
