-- DEMAND 1, REFUSED: what a refused call leaves.
--     open_refused, offer_refused, read_refused     the memory, and the outputs of read out, are as they were
--     dissolve_refused     so they are where dissolve's list checks refuse; else the memory is newly opened, the outputs are as they were, and it is
--                          refused by 5, 6 or 7, or by 10 for a short output
-- Assumes nothing.
use Prim.Native.Nat.{ℕ}
use mathlib.Core.Path.{◌≡◌, refl, sym, ◌∙◌, ap, subst}
use mathlib.Core.Logic.{◌⊎◌, inl, inr}
use mathlib.Core.Bool.{Bool, true, false, not}
use mathlib.Core.List.{List, [], ◌∷◌, ◌++◌, append_assoc}
use Rattle.scope.specs.declared.Refusal.{Refusal}
use Rattle.scope.specs.declared.Refusal.TheVariants.{EdgeNotInTable, EdgeTwice, PoolFull, BadLengths}
use Rattle.std.specs.Prelude.{Err, Ok}
use Rattle.scope.specs.Answers.{require, ◌▷◌, if_accepted, verdict_of, Answer, Verdict}
use Rattle.scope.specs.Table.{Table, target_of, outline_rows}
use Rattle.scope.specs.CellLists.{list_verdict, cell_verdict}
use Rattle.scope.specs.Memory.{Memory, Output, kept_mode, held, held_cells, places, opened, kept, outputs_agree}
use Rattle.scope.specs.Order.{view}
use Rattle.scope.specs.Pool.{all_in_table, names_twice, enough_slots, outline_verdict, taking}
use Rattle.scope.specs.Calls.{outcome, open_verdict, opening, offer_verdict, offering, Reading, read_from, reading, read_verdict, reading_out, output_fits, offering_all, dissolve_verdict, working, dissolving}
use Rattle.scope.proofs.Verdicts.{first_accepts, second_accepts}
use Rattle.scope.proofs.CellOffers.{offers_in_turn}
use Rattle.scope.proofs.Sound.{state_sound, offered}
use Rattle.scope.proofs.Taking.{taken_mode, taken_room}
use Rattle.scope.proofs.TakingCells.{Shown}
use Rattle.scope.proofs.TakingShows.{taken_shown}
use Rattle.scope.proofs.Run.{refused_not, read_accepts}
use Rattle.scope.proofs.Dissolving.{opened_mode, opened_places, open_shown}

-- ---- open and offer

left_refused : (v : Verdict) (after before : Memory) {why : Refusal} → v ≡ Err why → (outcome v after before).left ≡ before
left_refused v after before e = ap (λ (w : Verdict). if_accepted w after before) e

pub open_refused : (t : Table) (m : Memory) (mode : ℕ) {why : Refusal} → (opening t m mode).answer ≡ Err why → (opening t m mode).left ≡ m
unfolding opening
open_refused t m mode e = left_refused (open_verdict t m mode) (opened mode m) m e

pub offer_refused : (t : Table) (m : Memory) (x : ℕ) {why : Refusal} → (offering t m x).answer ≡ Err why → (offering t m x).left ≡ m
unfolding offering
offer_refused t m x e = left_refused (offer_verdict t m x) (taking t m x) m e

-- ---- read out

-- refused with this memory left, the outputs as they were
abbrev pub refusing : Refusal → Memory → Output → Reading
refusing why m o = record { answer = Err why; left = m; out = o }

-- what is carried out with an answer that is no refusal is refused by its verdict alone
reading_refused : (v : Verdict) (done : Reading) (m : Memory) (o : Output) {why : Refusal} → verdict_of done.answer ≡ Ok tt
    → (reading v done m o).answer ≡ Err why → (v ≡ Err why) × (reading v done m o ≡ refusing why m o)
unfolding verdict_of
reading_refused (Ok _) done m o a e = let z : ◌≡◌ {A = Verdict} (Ok tt) (Err _) = sym a ∙ ap verdict_of e in refused_not (sym z)
reading_refused (Err why) done m o a e = (ap verdict_of e, ap (λ (r : Answer). record { answer = r; left = m; out = o }) e)

pub read_refused : (t : Table) (m : Memory) (o : Output) {why : Refusal} → (reading_out t m o).answer ≡ Err why
    → reading_out t m o ≡ refusing why m o
unfolding reading_out
read_refused t m o e = (reading_refused (read_verdict t m o) (read_from t m o) m o (read_accepts t (view t m)) e).1

-- ---- dissolve: what is refused after its list checks

-- 5, 6, 7, or 10 for a short output
pub data Late : Refusal → Type 0 where
  five : {index : ℕ} → Late (EdgeNotInTable index)
  six : {index : ℕ} → Late (EdgeTwice index)
  seven : {index : ℕ} → Late (PoolFull index)
  short : Late BadLengths

abbrev LateVerdict : Verdict → Type 0
LateVerdict (Ok _) = Unit {0}
LateVerdict (Err why) = Late why

late_then : (v w : Verdict) → LateVerdict v → LateVerdict w → LateVerdict (v ▷ w)
late_then (Ok _) w p q = q
late_then (Err why) w p q = p

late_test : (b : Bool) (why : Refusal) → Late why → LateVerdict (require b why)
late_test true why p = tt
late_test false why p = p

outline_late : (t : Table) (m : Memory) (o : List ℕ) → LateVerdict (outline_verdict t m o)
unfolding outline_verdict
outline_late t m o =
    let once = require (not (names_twice o)) (EdgeTwice (held m)) in
    let room = require (enough_slots m o) (PoolFull (held m)) in
    late_then (require (all_in_table t o) (EdgeNotInTable (held m))) (once ▷ room) (late_test (all_in_table t o) (EdgeNotInTable (held m)) five)
    (late_then once room (late_test (not (names_twice o)) (EdgeTwice (held m)) six) (late_test (enough_slots m o) (PoolFull (held m)) seven))

-- the offers of a list that passes, after those of ys
module _ (t : Table) (mode capacity : ℕ) where
  offers_late : (k : Memory) (ys xs : List ℕ) → Shown t k ys → kept_mode k ≡ mode → places k ≡ capacity
      → list_verdict mode (target_of t) capacity (ys ++ xs) ≡ Ok tt → LateVerdict (offering_all t k xs).answer
  unfolding offering_all offering
  offers_late k ys [] S a b q = tt
  offers_late k ys (x ∷ xs) S a b q = go (offer_verdict t k x) refl (λ e.
      let O = offered t k x e in
      offers_late (taking t k x) (ys ++ (x ∷ [])) xs (taken_shown S O) (taken_mode O ∙ a) (taken_room O ∙ b)
      (ap (list_verdict mode (target_of t) capacity) (append_assoc ys (x ∷ []) xs) ∙ q))
    where
      cell : cell_verdict (kept_mode k) (target_of t) (places k) (held_cells k) x ≡ Ok tt
      cell = rw (a, b, S.shows.cells) (offers_in_turn mode (target_of t) capacity ys x xs q).1

      plain : offer_verdict t k x ≡ outline_verdict t k (outline_rows t x)
      plain = unfold offer_verdict in rw (state_sound S.sound, cell)

      go : (v : Verdict) → offer_verdict t k x ≡ v → (offer_verdict t k x ≡ Ok tt → LateVerdict (offering_all t (taking t k x) xs).answer)
          → LateVerdict (if_accepted v (offering_all t (if_accepted v (taking t k x) k) xs) (outcome v (taking t k x) k)).answer
      go (Ok _) e rest = rest e
      go (Err why) e rest = subst LateVerdict (sym plain ∙ e) (outline_late t k (outline_rows t x))

module _ (t : Table) (m : Memory) (mode : ℕ) (xs : List ℕ) (o : Output) where
  work_late : dissolve_verdict t m mode xs o ≡ Ok tt
      → LateVerdict ((offering_all t (opened mode m) xs).answer ▷ require (output_fits (view t (offering_all t (opened mode m) xs).left) o) BadLengths)
  unfolding dissolve_verdict
  work_late e =
      let checks = second_accepts (require (outputs_agree o) BadLengths) _ e in
      let opens = first_accepts (open_verdict t m mode) _ checks in
      let fits = output_fits (view t (offering_all t (opened mode m) xs).left) o in
      let passes = second_accepts (open_verdict t m mode) _ checks in
      late_then (offering_all t (opened mode m) xs).answer (require fits BadLengths)
      (offers_late t (kept mode) (places m) (opened mode m) [] xs (open_shown t m mode opens) (opened_mode m mode) (opened_places m mode) passes)
      (late_test fits BadLengths short)

  -- REFUSED BY ITS LIST CHECKS, dissolve leaves all as it was; refused later, the memory newly opened
  pub dissolve_refused : {why : Refusal} → (dissolving t m mode xs o).answer ≡ Err why
      → ((dissolve_verdict t m mode xs o ≡ Err why) × (dissolving t m mode xs o ≡ refusing why m o))
      ⊎ ((dissolve_verdict t m mode xs o ≡ Ok tt) × Late why × (dissolving t m mode xs o ≡ refusing why (opened mode m) o))
  unfolding dissolving working verdict_of
  dissolve_refused {why} e = go (dissolve_verdict t m mode xs o) refl e
    where
      go : (v : Verdict) → dissolve_verdict t m mode xs o ≡ v → (reading v (working t m mode xs o) m o).answer ≡ Err why
          → ((v ≡ Err why) × (reading v (working t m mode xs o) m o ≡ refusing why m o))
          ⊎ ((v ≡ Ok tt) × Late why × (reading v (working t m mode xs o) m o ≡ refusing why (opened mode m) o))
      go (Ok tt) a e =
          let last = offering_all t (opened mode m) xs in
          let late = last.answer ▷ require (output_fits (view t last.left) o) BadLengths in
          let z = reading_refused late (read_from t last.left o) (opened mode m) o (read_accepts t (view t last.left)) e in
          inr (refl, subst LateVerdict z.0 (work_late a), z.1)
      go (Err why) a e = inl (ap verdict_of e, ap (λ (r : Answer). record { answer = r; left = m; out = o }) e)
