-- Cells of a state that admits them, in turn.
--     offering_is        an admitted cell's offer is 5, 6, 7 and what follows
--     all_on, all_stop   an offer at the head of a list
--     InTurn             the loop over a list has come to its i-th cell; its moves
-- Assumes nothing.
use mathlib.Core.Path.{◌≡◌, refl, sym, ◌∙◌, ap, subst}
use mathlib.Core.Bool.{true, false}
use mathlib.Core.List.{List, ◌∷◌, ◌++◌, append_assoc}
use Prim.Native.Nat.{ℕ, suc, ◌+◌, ◌/◌, ◌%◌, ◌≤◌, ◌<◌}
use native.Mathlib.Numerals.{add-one}
use native.Mathlib.Omega.{arith}
use lib.ListN.{length, drop, drop_of_length-le, replicate, length-replicate, get_or-replicate}
use lib.Seq.{drop-cons}
use Rattle.std.specs.Prelude.{Result, Err, Ok}
use Rattle.scope.specs.declared.Refusal.{Refusal}
use Rattle.scope.specs.Lists.{at}
use Rattle.scope.specs.Answers.{is_accepted, if_accepted, Verdict}
use Rattle.scope.specs.Table.{Table, target_of, outline_rows}
use Rattle.scope.specs.CellLists.{list_verdict, cell_verdict}
use Rattle.scope.specs.Memory.{Memory, kept_mode, held_cells, places}
use Rattle.scope.specs.Pool.{free_slots, outline_verdict, taking}
use Rattle.scope.specs.Calls.{Outcome, outcome, offer_verdict, offering, offering_all}
use Rattle.scope.proofs.Verdicts.{accepted}
use Rattle.scope.proofs.CellOffers.{offers_in_turn}
use Rattle.scope.proofs.Sound.{Sound, state_sound, Offered}
use Rattle.scope.proofs.Taking.{taken_mode, taken_room, taken_cells}
use Rattle.scope.proofs.TakingRules.{taken_sound}
use Rattle.free_slots.specs.Search.{digit_at, Flags}
use Rattle.free_slots.proofs.Digits.{ones_digit}
use Rattle.placing.specs.Place.{free_in}
use Rattle.taking.specs.Outlines.{Room}
use Rattle.taking.specs.Taking.{verdict_in, TakeAsks, Takes, ListAsks, ScratchAsks, TakesAll}

pub free_slots_lem : (m : Memory) {free : ℕ} → free ≡ length (free_in m.slot_row) → free ≡ length (free_slots m)
unfolding free_slots
free_slots_lem m e = e

-- ---- one cell

-- the state is sound, and the cell passes 2, 3, 4, 3, 8
module _ {t : Table} {m : Memory} (S : Sound t m) (x : ℕ) (C : cell_verdict (kept_mode m) (target_of t) (places m) (held_cells m) x ≡ Ok tt) where
  pub offering_is : outcome (outline_verdict t m (outline_rows t x)) (taking t m x) m ≡ offering t m x
  unfolding offering offer_verdict
  offering_is = sym (rw (state_sound S, C))

-- ---- cells in turn

module _ (t : Table) (m : Memory) (x : ℕ) (xs : List ℕ) {v : Verdict} {m' : Memory} (q : record { answer = v; left = m' } ≡ offering t m x) where
  pub all_on : is_accepted v ≡ true → offering_all t m (x ∷ xs) ≡ offering_all t m' xs
  unfolding offering_all
  all_on e = rw (← q, accepted v e)

  pub all_stop : is_accepted v ≡ false → record { answer = v; left = m' } ≡ offering_all t m (x ∷ xs)
  unfolding offering_all
  all_stop e = rw (← q) (stays v e)
    where
      stays : (w : Verdict) → is_accepted w ≡ false → record { answer = v; left = m' } ≡ if_accepted w (offering_all t m' xs) (record { answer = v; left = m' })
      stays (Ok done) e = cc
      stays (Err why) e = refl

pub record InTurn (t : Table) (m₀ : Memory) (cs : List ℕ) (m : Memory) (rows vacant : List ℕ) (free i : ℕ) : Type 0 where
  pub within : i ≤ length cs
  pub asks : ListAsks t m (drop i cs)
  pub same : offering_all t m₀ cs ≡ offering_all t m (drop i cs)
  pub free_count : free ≡ length (free_slots m)
  pub flags : Flags vacant m.slot_row
  pub long_vacant : length vacant ≡ 1024
  pub room : (j : ℕ) → j < length cs → Room t.edges (at cs j) rows

-- every slot is flagged at first
all_flags : {t : Table} {m : Memory} → Sound t m → Flags (replicate 1024 18446744073709551615) m.slot_row
all_flags S =
    let l = length-replicate {A = ℕ} 1024 18446744073709551615 in
    let most = S.lengths.most_slots in
    record {
      room = omega arith;
      shown = λ s h e. ap (λ (w : ℕ). digit_at w (s % 64)) (get_or-replicate {A = ℕ} 1024 (s / 64) 18446744073709551615 0 (omega arith)) ∙ ones_digit 64 (s % 64) (omega arith);
    }

pub turn_start : {t : Table} {m : Memory} {cs rows : List ℕ} {free : ℕ} → ScratchAsks t m rows cs → free ≡ length (free_slots m) → InTurn t m cs m rows (replicate 1024 18446744073709551615) free 0
turn_start A e = record {
  within = omega arith;
  asks = A.asks;
  same = refl;
  free_count = e;
  flags = all_flags A.asks.sound;
  long_vacant = length-replicate {A = ℕ} 1024 18446744073709551615;
  room = A.room;
}

module _ {t : Table} {m₀ m : Memory} {cs rows vacant : List ℕ} {free i : ℕ} (I : InTurn t m₀ cs m rows vacant free i) where
  pub turn_end : length cs ≤ i → TakesAll t m₀ cs (Ok tt) m
  unfolding offering_all
  turn_end h = record { done = sym (I.same ∙ ap (offering_all t m) (drop_of_length-le cs {i = i} h)); sound = λ _. I.asks.sound }

  module _ (h : i < length cs) where
    next : drop i cs ≡ at cs i ∷ drop (suc i) cs
    next = drop-cons cs i 0 h

    in_list : (list_verdict (kept_mode m) (target_of t) (places m) (held_cells m) ≡ Ok tt) × (cell_verdict (kept_mode m) (target_of t) (places m) (held_cells m) (at cs i) ≡ Ok tt)
    in_list = offers_in_turn (kept_mode m) (target_of t) (places m) (held_cells m) (at cs i) (drop (suc i) cs)
        (subst (λ (l : List ℕ). list_verdict (kept_mode m) (target_of t) (places m) (held_cells m ++ l) ≡ Ok tt) next I.asks.list)

    pub turn_asks : TakeAsks t m rows vacant (at cs i) free
    turn_asks = record { sound = I.asks.sound; cell = in_list.1; free_count = I.free_count; flags = I.flags; room = I.room i h }

    module _ {r : Result ℕ Refusal} {m' : Memory} {vacant' : List ℕ} (T : Takes t m (at cs i) r m' vacant') where
      done : record { answer = verdict_in r; left = m' } ≡ offering t m (at cs i)
      done = T.done ∙ offering_is I.asks.sound (at cs i) in_list.1

      pub turn_stops : {why : Refusal} → r ≡ Err why → TakesAll t m₀ cs (Err why) m'
      turn_stops {why} e = record {
        done = all_stop t m (at cs i) (drop (suc i) cs) (rw e at done) refl ∙ sym (I.same ∙ ap (offering_all t m) next);
        sound = λ q. cc;
      }

      module _ {free' : ℕ} (e : r ≡ Ok free') where
        accepts : Ok tt ≡ outline_verdict t m (outline_rows t (at cs i))
        accepts = sym (ap verdict_in e) ∙ ap (λ (o : Outcome). o.answer) T.done

        taken_left : m' ≡ taking t m (at cs i)
        taken_left = ap (λ (o : Outcome). o.left) T.done ∙ rw (sym accepts)

        offered_now : Offered t m (at cs i)
        offered_now = record { sound = I.asks.sound; cell = in_list.1; outline = sym accepts }

        list_now : list_verdict (kept_mode (taking t m (at cs i))) (target_of t) (places (taking t m (at cs i))) (held_cells (taking t m (at cs i)) ++ drop (suc i) cs) ≡ Ok tt
        list_now = rw (taken_mode offered_now, taken_room offered_now, taken_cells offered_now, append_assoc)
            (subst (λ (l : List ℕ). list_verdict (kept_mode m) (target_of t) (places m) (held_cells m ++ l) ≡ Ok tt) next I.asks.list)

        pub turn_on : {rows' : List ℕ} → length rows' ≡ length rows → length vacant' ≡ length vacant → InTurn t m₀ cs m' rows' vacant' free' (i + 1)
        turn_on k f = record {
          within = omega arith;
          asks = rw (add-one i) (subst (λ (l : Memory). ListAsks t l (drop (suc i) cs)) (sym taken_left) (record { sound = taken_sound offered_now; list = list_now }));
          same = rw (add-one i) (I.same ∙ ap (offering_all t m) next ∙ all_on t m (at cs i) (drop (suc i) cs) (rw e at done) refl);
          free_count = T.free_count free' e;
          flags = T.flags;
          long_vacant = f ∙ I.long_vacant;
          room = λ j l. record { fits = λ n a b. let s = (I.room j l).fits n a b in omega arith };
        }
