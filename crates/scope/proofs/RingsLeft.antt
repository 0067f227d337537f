-- UNTOUCHED RINGS, WORKED OUT AFRESH: a ring of the accepted cells that holds no reverse of an edge of one more accepted cell's outline is a ring of
-- the cells with that one, and in the memory each of its rows keeps its slot, and the slot its row, its cell and both its links.
--     shown_slots, shown_ring_stays     of a state that shows its cells
--     run_slots, run_ring_stays         after any run of calls, and one more accepted offer
-- Assumes nothing.
use mathlib.Core.Path.{◌≡◌, sym, ◌∙◌, ap, subst}
use mathlib.Core.Bool.{true, not}
use mathlib.Core.List.Memᴰ
use mathlib.Core.List.{List, [], ◌∷◌, ◌++◌, Memᴰ}
use Prim.Native.Nat.{ℕ}
use lib.Dec.{eqb}
use Rattle.std.specs.Prelude.{Ok}
use Rattle.scope.specs.Answers.{if_accepted, Verdict}
use Rattle.scope.specs.Table.{Table, row_count, reverse_of, table_verdict, outline_rows}
use Rattle.scope.specs.Standing.{outlines}
use Rattle.scope.specs.Afresh.{is_standing, successor, ring, none_below, starts_ring, rings}
use Rattle.scope.specs.Memory.{Memory, has_slot, lengths_fit}
use Rattle.scope.specs.Calls.{offering}
use Rattle.scope.specs.Demands.{Call}
use Rattle.scope.proofs.Tests.{and_left, and_right, and_both}
use Rattle.scope.proofs.Members.{below_mem, mem_below}
use Rattle.scope.proofs.Rings.{ring_mem}
use Rattle.scope.proofs.Cycle.{iter_zero}
use Rattle.scope.proofs.Agree.{starts}
use Rattle.scope.proofs.Cancelling.{row_after}
use Rattle.scope.proofs.Sound.{sound_linked}
use Rattle.scope.proofs.Untouched.{rows_permute}
use Rattle.scope.proofs.SlotsLeft.{SlotLeft, offer_ring, offer_slots}
use Rattle.scope.proofs.TakingCells.{Shown}
use Rattle.scope.proofs.ShownAfresh.{shown_stands, shown_ring}
use Rattle.scope.proofs.Run.{offer_shown, ran, ran_shown}

module _ {t : Table} {m : Memory} {cs : List ℕ} (S : Shown t m cs) (x : ℕ) (e : (offering t m x).answer ≡ Ok tt) (l : List ℕ) (i : Memᴰ l (rings t cs))
    (untouched : (b : ℕ) → Memᴰ b l → Memᴰ (reverse_of t b) (outline_rows t x) → ⊥) where
  -- the ring's lowest row
  start : (r : ℕ) × Memᴰ r (starts t cs) × (ring (row_count t) (successor t cs) r ≡ l)
  unfolding rings
  start = Memᴰ.of_map (ring (row_count t) (successor t cs)) (starts t cs) i

  abbrev r : ℕ
  r = start.0

  lowest : starts_ring (row_count t) (is_standing (outlines t cs) (reverse_of t)) (successor t cs) r ≡ true
  lowest = (mem_below _ (row_count t) r start.1).1

  has : has_slot m r ≡ true
  unfolding starts_ring
  has = shown_stands S r ∙ and_left (is_standing (outlines t cs) (reverse_of t) r) _ lowest

  -- the ring as the state has it
  read : ring (row_count t) (row_after m) r ≡ l
  read = shown_ring S r has ∙ start.2

  apart : (b : ℕ) → Memᴰ b (ring (row_count t) (row_after m) r) → Memᴰ (reverse_of t b) (outline_rows t x) → ⊥
  apart b j = untouched b (subst (Memᴰ b) read j)

  pub shown_slots : (b : ℕ) → Memᴰ b l → SlotLeft m (offering t m x).left b
  shown_slots b j = offer_slots t m x e r has apart b (subst (Memᴰ b) (sym read) j)

  -- ---- with one more cell

  more : Shown t (offering t m x).left (cs ++ (x ∷ []))
  more = subst (λ (v : Verdict). Shown t (offering t m x).left (if_accepted v (cs ++ (x ∷ [])) cs)) e (offer_shown t m cs x S)

  still : has_slot (offering t m x).left r ≡ true
  still =
      let here = subst (λ (a : ℕ). Memᴰ a (ring (row_count t) (row_after m) r)) (iter_zero (row_after m) r) (ring_mem (rows_permute (sound_linked S.sound)) r has 0) in
      ap (λ (k : ℕ). not (eqb k 0)) (offer_slots t m x e r has apart r here).row_slot ∙ has

  again : ring (row_count t) (successor t (cs ++ (x ∷ []))) r ≡ l
  again = sym (shown_ring more r still) ∙ offer_ring t m x e r has apart ∙ read

  lowest_again : starts_ring (row_count t) (is_standing (outlines t (cs ++ (x ∷ []))) (reverse_of t)) (successor t (cs ++ (x ∷ []))) r ≡ true
  unfolding starts_ring
  lowest_again = and_both _ _ (sym (shown_stands more r) ∙ still)
      (ap (none_below r) (again ∙ sym start.2) ∙ and_right (is_standing (outlines t cs) (reverse_of t) r) _ lowest)

  pub shown_ring_stays : Memᴰ l (rings t (cs ++ (x ∷ [])))
  unfolding rings
  shown_ring_stays = subst (λ (k : List ℕ). Memᴰ k (rings t (cs ++ (x ∷ [])))) again
      (Memᴰ.map (ring (row_count t) (successor t (cs ++ (x ∷ [])))) (below_mem _ (row_count t) r (mem_below _ (row_count t) r start.1).0 lowest_again))

-- ---- after any run of calls

module _ (t : Table) (m : Memory) (mode : ℕ) (calls : List Call) (checked : table_verdict t ≡ Ok tt) (fits : lengths_fit t m ≡ true)
    (x : ℕ) (e : (offering t (ran t mode m calls).memory x).answer ≡ Ok tt) (l : List ℕ) (i : Memᴰ l (rings t (ran t mode m calls).cells))
    (untouched : (b : ℕ) → Memᴰ b l → Memᴰ (reverse_of t b) (outline_rows t x) → ⊥) where
  pub run_slots : (b : ℕ) → Memᴰ b l → SlotLeft (ran t mode m calls).memory (offering t (ran t mode m calls).memory x).left b
  run_slots = shown_slots (ran_shown t m mode calls checked fits) x e l i untouched

  pub run_ring_stays : Memᴰ l (rings t ((ran t mode m calls).cells ++ (x ∷ [])))
  run_ring_stays = shown_ring_stays (ran_shown t m mode calls checked fits) x e l i untouched
