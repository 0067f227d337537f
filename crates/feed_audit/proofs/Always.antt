-- WHAT STANDS IS WHAT IS DISSOLVED AFRESH: of a checked table an audit never says that the two differ.
--     same_self       an outline that is read out is the same as itself
--     afresh_again    the held cells, dissolved in the state's own memory, give what read out gives
--     afresh_anew     so they do in any memory of the same sizes
--     always_same     so the audit says that the two are the same, with outputs half as long as the table or longer
-- Assumes nothing.
use Prim.Native.Nat.{ℕ, ◌*◌, ◌≤◌}
use mathlib.Core.Path.{◌≡◌, refl, sym, ◌∙◌, ap}
use mathlib.Core.Bool.{Bool, true, ◌&&◌}
use mathlib.Core.List.{List, [], ◌∷◌}
use lib.Dec.{eqb}
use lib.Ieee.{Float}
use lib.ListN.{length}
use borrow.Author.Tests.{eq-eqb}
use Rattle.std.specs.Prelude.{Err, Ok}
use Rattle.scope.specs.declared.Refusal.TheVariants.{BadLengths}
use Rattle.scope.specs.declared.ReadOut.TheVariants.{Nothing, Closed, Outline}
use Rattle.scope.specs.Lists.{at, passes}
use Rattle.scope.specs.Answers.{if_accepted, verdict_of, kind_of, polygons_of, rings_of, Answer, Verdict}
use Rattle.scope.specs.Bytes.{area_bits}
use Rattle.scope.specs.Table.{Table, row_count}
use Rattle.scope.specs.Memory.{Memory, Output, opened, held_cells, places, slots, lengths_fit, mode_fits, outputs_agree}
use Rattle.scope.specs.Pool.{taking}
use Rattle.scope.specs.Order.{view}
use Rattle.scope.specs.Calls.{Outcome, outcome, open_verdict, opening, offer_verdict, offering, offering_all, Reading, read_from, reading, read_verdict, reading_out, dissolving}
use Rattle.scope.proofs.Tests.{and_both}
use Rattle.scope.proofs.Scan.{passes_all}
use Rattle.scope.proofs.Verdicts.{both_accept, require_accepts}
use Rattle.scope.proofs.Lengths.{Lengths, lengths_kept}
use Rattle.scope.proofs.Sound.{Sound, state_sound, offered}
use Rattle.scope.proofs.Taking.{taken_room}
use Rattle.scope.proofs.TakingRules.{pool_same}
use Rattle.scope.proofs.EnoughRoom.{read_enough}
use Rattle.scope.proofs.Run.{refused_not, all_shown, read_leaves, read_accepts}
use Rattle.scope.proofs.Dissolving.{opened_places, opened_slots, open_table, open_lengths, open_shown, dissolve_is}
use Rattle.taking.proofs.Sizes.{Sized, opened_same}
use Rattle.audit.specs.Feed.{left_by, accepted_of, feeding}
use Rattle.audit.specs.Same.{same_at, same_numbers, bits_at, same_bits_at, same_areas, same_output, same_answer}
use Rattle.audit.proofs.FromOpened.{accepted_all, held_are}
use Rattle.full_size.specs.Drawing.{Drawn, drawn, full_memory, drawing}
use Rattle.full_size.proofs.Anew.{dissolve_anew}
use Rattle.feed_audit.specs.Audit.{beginning, reading_fed, Standing, standing, comparing, auditing}
use Rattle.feed_audit.proofs.Full.{after}

-- ---- an outline is the same as itself

numbers_self : (a : List ℕ) → same_numbers a a ≡ true
unfolding same_numbers
numbers_self a =
    and_both (eqb (length a) (length a)) (passes (same_at a a) (length a)) (eq-eqb (length a) (length a) refl)
    (passes_all (same_at a a) (length a) (λ k h. eq-eqb (at a k) (at a k) refl))

areas_self : (a : List Float) → same_areas a a ≡ true
unfolding same_areas
areas_self a =
    and_both (eqb (length a) (length a)) (passes (same_bits_at a a) (length a)) (eq-eqb (length a) (length a) refl)
    (passes_all (same_bits_at a a) (length a) (λ k h. eq-eqb (bits_at a k) (bits_at a k) refl))

output_self : (o : Output) → same_output o o ≡ true
unfolding same_output
output_self o =
    and_both _ _ (and_both _ _ (and_both _ _ (and_both _ _ (numbers_self o.start) (numbers_self o.size)) (numbers_self o.group)) (areas_self o.area))
    (numbers_self o.edges)

self : (n : ℕ) → eqb n n ≡ true
self n = eq-eqb n n refl

answer_self : (r : Answer) → verdict_of r ≡ Ok tt → same_answer r r ≡ true
unfolding same_answer verdict_of kind_of polygons_of rings_of
answer_self (Ok Nothing) e = rw (self (area_bits (Ok Nothing)))
answer_self (Ok Closed) e = rw (self (area_bits (Ok Closed)))
answer_self (Ok (Outline polygons rings area)) e = rw (self polygons, self rings, self (area_bits (Ok (Outline polygons rings area))))
answer_self (Err why) e = refused_not e

abbrev same_drawn : Drawn → Drawn → Bool
same_drawn r s = same_answer r.answer s.answer && same_output r.out s.out

pub same_self : (r : Drawn) → verdict_of r.answer ≡ Ok tt → same_drawn r r ≡ true
same_self r e = and_both _ _ (answer_self r.answer e) (output_self r.out)

-- ---- offers leave the capacities

module _ (t : Table) where
  offer_sizes : (m : Memory) (x : ℕ) → (places (offering t m x).left ≡ places m) × (slots (offering t m x).left ≡ slots m)
  unfolding offering
  offer_sizes m x = go (offer_verdict t m x) refl
    where
      go : (v : Verdict) → offer_verdict t m x ≡ v → (places (if_accepted v (taking t m x) m) ≡ places m) × (slots (if_accepted v (taking t m x) m) ≡ slots m)
      go (Ok done) e = (taken_room (offered t m x e), pool_same (offered t m x e))
      go (Err why) e = (refl, refl)

  feed_sizes : (m : Memory) (xs : List ℕ) → (places (left_by t m xs) ≡ places m) × (slots (left_by t m xs) ≡ slots m)
  unfolding left_by
  feed_sizes m [] = (refl, refl)
  feed_sizes m (x ∷ xs) = let first = offer_sizes m x in let rest = feed_sizes (offering t m x).left xs in (rest.0 ∙ first.0, rest.1 ∙ first.1)

  -- lengths that fit one table are told by the capacities
  sized_by : {m k : Memory} → Lengths t m → Lengths t k → places k ≡ places m → slots k ≡ slots m → Sized m k
  sized_by l n p s = record {
    head = n.head ∙ sym l.head;
    cells = p;
    parent = n.parent ∙ p ∙ sym l.parent;
    rank = n.rank ∙ p ∙ sym l.rank;
    cell_mark = n.cell_mark ∙ p ∙ sym l.cell_mark;
    slot_row = s;
    slot_cell = n.slot_cell ∙ s ∙ sym l.slot_cell;
    prev = n.prev ∙ s ∙ sym l.prev;
    next = n.next ∙ s ∙ sym l.next;
    row_slot = n.row_slot ∙ sym l.row_slot;
    row_mark = n.row_mark ∙ sym l.row_mark;
  }

-- ---- from a newly opened state

module _ (t : Table) (m : Memory) (opens : open_verdict t m 2 ≡ Ok tt) (xs : List ℕ) where
  abbrev fresh : Memory
  fresh = opened 2 m

  abbrev last : Memory
  last = left_by t fresh xs

  abbrev taken : List ℕ
  taken = accepted_of t fresh xs

  all_taken : (offering_all t fresh taken).answer ≡ Ok tt
  all_taken = ap (λ (o : Outcome). o.answer) (accepted_all t fresh xs)

  leaves_last : (offering_all t fresh taken).left ≡ last
  leaves_last = ap (λ (o : Outcome). o.left) (accepted_all t fresh xs)

  last_sound : Sound t last
  last_sound = (rw leaves_last at (all_shown t fresh [] taken (open_shown t m 2 opens) all_taken)).sound

  last_lengths : Lengths t last
  last_lengths = last_sound.lengths

  opens_again : open_verdict t last 2 ≡ Ok tt
  unfolding open_verdict
  opens_again = both_accept _ _ (require_accepts (lengths_fit t last && mode_fits 2) BadLengths (and_both _ _ (lengths_kept t last last_lengths) refl)) (open_table t m 2 opens)

  sized_last : Sized m last
  sized_last = let sizes = feed_sizes t fresh xs in sized_by t (open_lengths t m 2 opens) last_lengths (sizes.0 ∙ opened_places m 2) (sizes.1 ∙ opened_slots m 2)

  same_opened : opened 2 last ≡ fresh
  same_opened = opened_same 2 sized_last

  again_last : (offering_all t (opened 2 last) taken).left ≡ last
  again_last = ap (λ (k : Memory). (offering_all t k taken).left) same_opened ∙ leaves_last

  again_taken : (offering_all t (opened 2 last) taken).answer ≡ Ok tt
  again_taken = ap (λ (k : Memory). (offering_all t k taken).answer) same_opened ∙ all_taken

  module _ (o : Output) (r : read_verdict t last o ≡ Ok tt) where
    pub afresh_again : dissolving t last 2 (held_cells last) o ≡ reading_out t last o
    afresh_again =
        ap (λ (cs : List ℕ). dissolving t last 2 cs o) (held_are t m 2 opens xs)
        ∙ dissolve_is t last 2 taken o opens_again again_taken (ap (λ (k : Memory). read_verdict t k o) again_last ∙ r)
        ∙ ap (λ (k : Memory). reading_out t k o) again_last

    -- in another memory of the same sizes
    pub afresh_anew : drawn (dissolving t m 2 (held_cells last) o) ≡ drawn (reading_out t last o)
    afresh_anew = sym (dissolve_anew t 2 (held_cells last) o sized_last) ∙ ap (λ (d : Reading). drawn d) afresh_again

    pub read_done : verdict_of (reading_out t last o).answer ≡ Ok tt
    unfolding reading_out
    read_done = ap (λ (v : Verdict). verdict_of (reading v (read_from t last o) last o).answer) r ∙ read_accepts t (view t last)

-- ---- in memory of full size

module _ (t : Table) (opens : open_verdict t (full_memory t) 2 ≡ Ok tt) (xs : List ℕ) (o : Output) where
  -- what is said of what stands
  abbrev judged : Standing → Bool
  judged s = (comparing t s.cells s.answer s.out o).same

  abbrev stays : Memory
  stays = left_by t (opened 2 (full_memory t)) xs

  same_read : read_verdict t stays o ≡ Ok tt → (auditing t xs o o).same ≡ true
  unfolding auditing standing reading_fed beginning comparing drawing opening feeding
  same_read r =
      ap (λ (v : Verdict). judged (after t xs o (outcome v (opened 2 (full_memory t)) (full_memory t)))) opens
      ∙ ap (λ (k : Memory). same_drawn (drawn (reading_out t stays o)) (drawn (dissolving t (full_memory t) 2 (held_cells k) o))) (read_leaves t stays o)
      ∙ ap (same_drawn (drawn (reading_out t stays o))) (afresh_anew t (full_memory t) opens xs o r)
      ∙ same_self (drawn (reading_out t stays o)) (read_done t (full_memory t) opens xs o r)

  pub always_same : outputs_agree o ≡ true → row_count t ≤ 2 * length o.start → row_count t ≤ 2 * length o.edges → (auditing t xs o o).same ≡ true
  always_same agree records rows = same_read (read_enough t o records rows stays ∙ both_accept _ _ (require_accepts (outputs_agree o) BadLengths agree) (state_sound (last_sound t (full_memory t) opens xs)))
