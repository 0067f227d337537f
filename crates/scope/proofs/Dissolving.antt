-- DISSOLVE IS ITS CALLS: open, then offers in list order, then read out.
--     all_mode, all_places     offers change neither the mode nor the capacity
--     inner_offer              in a list that passes, an offer after the cells before it passes all tests up to the outline's own: 5, 6 or 7;
--                              `inner_index`: these return its place in the list
--     dissolve_is              where opening, offers and read out are carried out, so is dissolve, with the same answer, memory and outputs
--     dissolve_calls           and where dissolve is carried out, so are they
-- Assumes nothing.
use mathlib.Core.Path.{◌≡◌, refl, sym, ◌∙◌, ap, subst}
use mathlib.Core.Bool.{true, ◌&&◌}
use mathlib.Core.List.{List, [], ◌∷◌, ◌++◌}
use Prim.Native.Nat.{ℕ}
use native.Mathlib.Omega.{arith}
use lib.ListN.{length}
use Rattle.scope.specs.declared.Refusal.TheVariants.{BadLengths}
use Rattle.std.specs.Prelude.{Err, Ok}
use Rattle.scope.specs.Answers.{require, ◌▷◌, verdict_of, Verdict}
use Rattle.scope.specs.Table.{Table, target_of, table_verdict, outline_rows}
use Rattle.scope.specs.CellLists.{list_verdict, cell_verdict}
use Rattle.scope.specs.Memory.{Memory, Output, kept_mode, held, held_cells, places, slots, opened, kept, lengths_fit, mode_fits, outputs_agree}
use Rattle.scope.specs.Order.{view}
use Rattle.scope.specs.Pool.{outline_verdict, taking}
use Rattle.scope.specs.Calls.{Outcome, open_verdict, state_verdict, offer_verdict, Reading, read_from, reading, read_verdict, reading_out, output_fits, offering_all, dissolve_verdict, working, dissolving}
use Rattle.scope.proofs.Tests.{and_left}
use Rattle.scope.proofs.Verdicts.{first_accepts, second_accepts, both_accept, require_holds, require_accepts}
use Rattle.scope.proofs.CellLists.{ListGood, list_accepted}
use Rattle.scope.proofs.CellOffers.{offers_in_turn}
use Rattle.scope.proofs.Lengths.{Lengths, lengths_good}
use Rattle.scope.proofs.Sound.{state_sound, sound_cells, offered}
use Rattle.scope.proofs.Taking.{taken_mode, taken_room}
use Rattle.scope.proofs.Opened.{zeros_length}
use Rattle.scope.proofs.TakingCells.{Shown}
use Rattle.scope.proofs.TakingShows.{shown_count}
use Rattle.scope.proofs.Run.{refused_not, opened_shown, all_accept, all_none, all_shown}

-- ---- offers in a row

module _ (t : Table) where
  all_mode : (m : Memory) (xs : List ℕ) → (offering_all t m xs).answer ≡ Ok tt → kept_mode (offering_all t m xs).left ≡ kept_mode m
  all_mode m [] e = rw (all_none t m)
  all_mode m (x ∷ xs) e = let q = all_accept t m x xs e in rw q.2 (all_mode (taking t m x) xs q.1 ∙ taken_mode (offered t m x q.0))

  all_places : (m : Memory) (xs : List ℕ) → (offering_all t m xs).answer ≡ Ok tt → places (offering_all t m xs).left ≡ places m
  all_places m [] e = rw (all_none t m)
  all_places m (x ∷ xs) e = let q = all_accept t m x xs e in rw q.2 (all_places (taking t m x) xs q.1 ∙ taken_room (offered t m x q.0))

pub opened_mode : (m : Memory) (mode : ℕ) → kept_mode (opened mode m) ≡ kept mode
unfolding opened
opened_mode m mode = refl

pub opened_places : (m : Memory) (mode : ℕ) → places (opened mode m) ≡ places m
unfolding opened
opened_places m mode = zeros_length m.cells

pub opened_slots : (m : Memory) (mode : ℕ) → slots (opened mode m) ≡ slots m
unfolding opened
opened_slots m mode = zeros_length m.slot_row

-- what open has tested
module _ (t : Table) (m : Memory) (mode : ℕ) (e : open_verdict t m mode ≡ Ok tt) where
  pub open_table : table_verdict t ≡ Ok tt
  unfolding open_verdict
  open_table = second_accepts (require (lengths_fit t m && mode_fits mode) BadLengths) _ e

  pub open_lengths : Lengths t m
  unfolding open_verdict
  open_lengths = lengths_good t m (and_left (lengths_fit t m) (mode_fits mode) (require_holds _ BadLengths (first_accepts _ _ e)))

  pub open_shown : Shown t (opened mode m) []
  open_shown = opened_shown t m mode open_table open_lengths

  module _ (xs : List ℕ) (a : (offering_all t (opened mode m) xs).answer ≡ Ok tt) where
    abbrev last : Memory
    last = (offering_all t (opened mode m) xs).left

    pub last_shown : Shown t (offering_all t (opened mode m) xs).left xs
    last_shown = all_shown t (opened mode m) [] xs open_shown a

    last_mode : kept_mode (offering_all t (opened mode m) xs).left ≡ kept mode
    last_mode = all_mode t (opened mode m) xs a ∙ opened_mode m mode

    last_places : places (offering_all t (opened mode m) xs).left ≡ places m
    last_places = all_places t (opened mode m) xs a ∙ opened_places m mode

    -- the list passes, since each offer did
    list_passes : list_verdict (kept mode) (target_of t) (places m) xs ≡ Ok tt
    list_passes =
        let S = last_shown in
        let n = shown_count S in
        let p = last_places in
        let g : ListGood (kept mode) (target_of t) (held last) xs = subst (λ (k : ℕ). ListGood k (target_of t) (held last) xs) last_mode
        (subst (ListGood (kept_mode last) (target_of t) (held last)) S.shows.cells (sound_cells S.sound)) in
        list_accepted (kept mode) (target_of t) (places m) xs (record {
          valid = g.valid;
          once = g.once;
          fits = g.fits;
          apart = g.apart;
          room = let c = S.sound.rules.count_fits in omega arith;
        })

    -- its index is its place in the list
    pub inner_index : held (offering_all t (opened mode m) xs).left ≡ length xs
    inner_index = shown_count last_shown

    -- THE NEXT OFFER of a list that passes is refused by 5, 6 or 7, or accepted
    pub inner_offer : (x : ℕ) (ys : List ℕ) → list_verdict (kept mode) (target_of t) (places m) (xs ++ (x ∷ ys)) ≡ Ok tt
        → offer_verdict t (offering_all t (opened mode m) xs).left x ≡ outline_verdict t (offering_all t (opened mode m) xs).left (outline_rows t x)
    unfolding offer_verdict
    inner_offer x ys q =
        let S = last_shown in
        let cell : cell_verdict (kept_mode last) (target_of t) (places last) (held_cells last) x ≡ (Ok tt) =
        rw (last_mode, last_places, S.shows.cells) (offers_in_turn (kept mode) (target_of t) (places m) xs x ys q).1 in
        rw (state_sound S.sound, cell)

-- ---- carried out

module _ (t : Table) (m : Memory) (mode : ℕ) (xs : List ℕ) (o : Output) where
  abbrev done : Outcome
  done = offering_all t (opened mode m) xs

  -- each call where its tests pass
  pub dissolve_done : dissolve_verdict t m mode xs o ≡ Ok tt → dissolving t m mode xs o ≡ working t m mode xs o
  unfolding dissolving
  dissolve_done e = ap (λ (v : Verdict). reading v (working t m mode xs o) m o) e

  pub work_done : (done.answer ▷ require (output_fits (view t done.left) o) BadLengths) ≡ Ok tt → working t m mode xs o ≡ read_from t done.left o
  unfolding working
  work_done e = ap (λ (v : Verdict). reading v (read_from t done.left o) (opened mode m) o) e

  read_done : (k : Memory) → read_verdict t k o ≡ Ok tt → reading_out t k o ≡ read_from t k o
  unfolding reading_out
  read_done k e = ap (λ (v : Verdict). reading v (read_from t k o) k o) e

  -- what read out has tested
  read_agrees : (k : Memory) → read_verdict t k o ≡ Ok tt → outputs_agree o ≡ true
  unfolding read_verdict
  read_agrees k e = require_holds _ BadLengths (first_accepts _ _ e)

  read_fits : (k : Memory) → read_verdict t k o ≡ Ok tt → output_fits (view t k) o ≡ true
  unfolding read_verdict
  read_fits k e = require_holds _ BadLengths (second_accepts (state_verdict t k) _ (second_accepts (require (outputs_agree o) BadLengths) _ e))

  pub dissolve_is : open_verdict t m mode ≡ Ok tt → (offering_all t (opened mode m) xs).answer ≡ Ok tt
      → read_verdict t (offering_all t (opened mode m) xs).left o ≡ Ok tt
      → dissolving t m mode xs o ≡ reading_out t (offering_all t (opened mode m) xs).left o
  unfolding dissolve_verdict
  dissolve_is e a r =
      dissolve_done (both_accept _ _ (require_accepts _ BadLengths (read_agrees done.left r)) (both_accept _ _ e (list_passes t m mode e xs a)))
      ∙ work_done (both_accept _ _ a (require_accepts _ BadLengths (read_fits done.left r))) ∙ sym (read_done done.left r)

  -- ---- and back

  -- a reading that is no refusal was carried out
  pub reading_accepted : (v : Verdict) (r : Reading) (k : Memory) → verdict_of (reading v r k o).answer ≡ Ok tt → v ≡ Ok tt
  unfolding verdict_of
  reading_accepted (Ok _) r k e = refl
  reading_accepted (Err why) r k e = refused_not e

  pub dissolve_calls : verdict_of (dissolving t m mode xs o).answer ≡ Ok tt
      → (open_verdict t m mode ≡ Ok tt) × ((offering_all t (opened mode m) xs).answer ≡ Ok tt)
      × (read_verdict t (offering_all t (opened mode m) xs).left o ≡ Ok tt)
  unfolding dissolving working dissolve_verdict read_verdict
  dissolve_calls e =
      let passed = reading_accepted (dissolve_verdict t m mode xs o) (working t m mode xs o) m e in
      let worked = reading_accepted (done.answer ▷ require (output_fits (view t done.left) o) BadLengths) (read_from t done.left o) (opened mode m)
      (rw (dissolve_done passed) at e) in
      let agree = first_accepts (require (outputs_agree o) BadLengths) _ passed in
      let opening : open_verdict t m mode ≡ (Ok tt) = first_accepts _ _ (second_accepts (require (outputs_agree o) BadLengths) _ passed) in
      let offering = first_accepts done.answer _ worked in
      (opening, offering, both_accept _ _ agree (both_accept _ _ (state_sound (last_shown t m mode opening xs offering).sound) (second_accepts done.answer _ worked)))
