-- The end of `cancel_rows`: all rows met, the lists are those that `cancelled` defines.
--     left_links, left_back     the links left are those of the successor rule over the links before, forward and backward
--     cancelling_end            the state left
-- Assumes nothing.
use mathlib.Core.Path.{◌≡◌, refl, sym, ◌∙◌, ap}
use mathlib.Core.Logic.{⊎_elim}
use mathlib.Core.Bool.{Bool, true, false, ◌&&◌, not, cond}
use mathlib.Core.List.{List, []}
use Prim.Native.Nat.{ℕ, ◌≤◌, ◌<◌}
use native.Mathlib.Omega.{arith}
use lib.ListN.{length, get_or-eq_default}
use lib.Seq.{ext_get_or}
use Rattle.scope.specs.Lists.{at}
use Rattle.scope.specs.Table.{Table, reverse_of}
use Rattle.scope.specs.Memory.{Memory, memory, slots, is_used, slot_of, has_slot}
use Rattle.scope.specs.Pool.{cancels, stays, reverse_held, reverse_slot, relinked, if_stays, row_if_stays, met_first, unite_pairs, cancelled}
use Rattle.scope.proofs.Tests.{either, clash, le_or_lt}
use Rattle.scope.proofs.Members.{cases}
use Rattle.scope.proofs.Lands.{lands_map, lands_to, lands_unique}
use Rattle.scope.proofs.Returns.{Over, Paired, turned, returns, over_turns}
use Rattle.scope.proofs.Linked.{Used, used_true, slot_used, row_slot, cancels_used, stays_used, stays_not, stays_rest, mate_cancels, linked_paired}
use Rattle.scope.proofs.Cancelling.{Cancelled, cancelled_lists, tabulate_length}
use Rattle.arcs.specs.CancelRows.{CancelAsks}
use Rattle.arcs.proofs.Gone.{gone, Met, gone_all}
use Rattle.arcs.proofs.Cancelling.{Left, unless_gone, unions, Cancelling}
use Rattle.arcs.proofs.Skipping.{none}

pick : (used held : Bool) (v : ℕ) → (used ≡ false → v ≡ 0) → cond (used && held) 0 v ≡ cond (used && not held) v 0
pick true true v z = refl
pick true false v z = refl
pick false held v z = z refl

listed : (l k : List ℕ) → length l ≡ length k → ((i : ℕ) → at l i ≡ at k i) → l ≡ k
listed l k e f = ext_get_or 0 l k e (λ i h. f i)

module _ {t : Table} {m : Memory} {n : ℕ} {o : List ℕ} (A : CancelAsks t m n o) {ss l : List ℕ} {pairs : ℕ} {m' : Memory}
    (C : Cancelling t m n ss l [] pairs m') (met : (s : ℕ) → cancels t m s ≡ true → Met t m l s) where
  gone_is : (s : ℕ) → gone t m l s ≡ cancels t m s
  gone_is = gone_all t m l met

  paired : Paired (slots m) (Used m) (cancels t m) (reverse_slot t m) (at m.next) (at m.prev)
  paired = linked_paired A.reverses A.linked

  stays_left : (s : ℕ) → stays t m s ≡ true → Left t m l s
  stays_left s e = (stays_used t m s e, gone_is s ∙ stays_not t m s e)

  -- what is left stays
  left_stays : (s : ℕ) → Left t m l s → cancels t m s ≡ false
  left_stays s u = sym (gone_is s) ∙ u.1

  left_over : (s : ℕ) → Left t m l s → Over (cancels t m) (reverse_slot t m) (at m.next) (at m.next s) (at m'.next s)
  left_over s u = lands_map (λ w. w) (Used m)
      (λ w v q. ap not (left_stays w q))
      (λ w v e. (v, gone_is w ∙ no_stop (cancels t m w) e))
      (λ w v k. A.linked.next_used (reverse_slot t m w) (cancels_used t m (reverse_slot t m w) (mate_cancels A.reverses A.linked w (goes w v k))))
      (λ w v k. refl)
      (A.linked.next_used s u.0) (C.after.links s u)
    where
      no_stop : (b : Bool) → not b ≡ true → b ≡ false
      no_stop true e = sym e
      no_stop false e = refl

      goes : (w : ℕ) → Used m w → (Left t m l w → ⊥) → cancels t m w ≡ true
      goes w v k = ⊎_elim (λ c. c) (λ c. absurd (k (v, gone_is w ∙ c))) (either (cancels t m w))

  left_links : (s : ℕ) → stays t m s ≡ true → at m'.next s ≡ relinked t m m.next s
  unfolding relinked
  left_links s e = lands_unique (left_over s (stays_left s e)) (returns paired s (stays_used t m s e) (stays_not t m s e))

  left_back : (s : ℕ) → stays t m s ≡ true → at m'.prev s ≡ relinked t m m.prev s
  unfolding relinked
  left_back s e =
      let u = stays_left s e in
      let a = at m'.prev s in
      let v = C.round.prev_in s u in
      let way = lands_to (C.round.next_prev s u) (left_over a v) in
      lands_unique (over_turns paired a s v.0 (left_stays a v) way) (returns (turned paired) s u.0 (stays_not t m s e))

  -- ---- list by list

  free_zero : (s : ℕ) → is_used m s ≡ false → at m.slot_row s ≡ 0
  free_zero s e = cases (at m.slot_row s) 0 (λ z. z) (λ u. absurd (clash (used_true m s u) e))

  -- a slot's number that is 0 where the slot is free
  slot_left : (v s : ℕ) → (at m.slot_row s ≡ 0 → v ≡ 0) → unless_gone t m l s v ≡ cond (stays t m s) v 0
  slot_left v s z = ap (λ (b : Bool). cond b 0 v) (gone_is s) ∙ pick (is_used m s) (reverse_held t m s) v (λ e. z (free_zero s e))

  link_left : (now : List ℕ) (f : ℕ → ℕ) → ((s : ℕ) → stays t m s ≡ true → at now s ≡ f s) → ((s : ℕ) → (Left t m l s → ⊥) → at now s ≡ 0)
      → (s : ℕ) → at now s ≡ if_stays t m f s
  link_left now f e z s = ⊎_elim
      (λ (q : stays t m s ≡ true). e s q ∙ sym (rw q))
      (λ (q : stays t m s ≡ false). z s (λ u. clash (stays_rest t m s u.0 (left_stays s u)) q) ∙ sym (rw q))
      (either (stays t m s))

  row_left : (r : ℕ) → unless_gone t m l (slot_of m r) (at m.row_slot r) ≡ row_if_stays t m r
  row_left r = ap (λ (b : Bool). cond b 0 (at m.row_slot r)) (gone_is (slot_of m r)) ∙ cases (at m.row_slot r) 0
      (λ e. none (cancels t m (slot_of m r)) (has_slot m (reverse_of t r)) (at m.row_slot r) e)
      (λ h. rw (used_true m (slot_of m r) (slot_used A.linked r h)) (ap (λ (a : ℕ). cond (has_slot m (reverse_of t a)) 0 (at m.row_slot r)) (row_slot A.linked r h)))

  -- a free slot's cell is 0, also past the pool
  cell_zero : (s : ℕ) → at m.slot_row s ≡ 0 → at m.slot_cell s ≡ 0
  cell_zero s e = ⊎_elim
      (λ (h : slots m ≤ s). get_or-eq_default m.slot_cell 0 (rw A.even_cell h))
      (λ (h : s < slots m). (A.free s h e).cell_clear)
      (le_or_lt (slots m) s)

  lists : Cancelled t m (cancelled t m ss)
  lists = cancelled_lists t m ss

  rows_are : m'.slot_row ≡ (cancelled t m ss).slot_row
  rows_are = listed m'.slot_row (cancelled t m ss).slot_row (C.long_row ∙ sym lists.pool)
      (λ s. C.slot_row s ∙ slot_left (at m.slot_row s) s (λ z. z) ∙ sym (lists.slot_row s))

  cells_are : m'.slot_cell ≡ (cancelled t m ss).slot_cell
  unfolding cancelled
  cells_are = listed m'.slot_cell (cancelled t m ss).slot_cell (C.long_cell ∙ sym (tabulate_length (if_stays t m (at m.slot_cell)) 0 (slots m)))
      (λ s. C.slot_cell s ∙ slot_left (at m.slot_cell s) s (cell_zero s) ∙ sym (lists.slot_cell s))

  prevs_are : m'.prev ≡ (cancelled t m ss).prev
  unfolding cancelled
  prevs_are = listed m'.prev (cancelled t m ss).prev (C.long_prev ∙ sym (tabulate_length (if_stays t m (relinked t m m.prev)) 0 (slots m)))
      (λ s. link_left m'.prev (relinked t m m.prev) left_back C.prev_clear s ∙ sym (lists.slot_prev s))

  nexts_are : m'.next ≡ (cancelled t m ss).next
  unfolding cancelled
  nexts_are = listed m'.next (cancelled t m ss).next (C.long_next ∙ sym (tabulate_length (if_stays t m (relinked t m m.next)) 0 (slots m)))
      (λ s. link_left m'.next (relinked t m m.next) left_links C.next_clear s ∙ sym (lists.slot_next s))

  slots_are : m'.row_slot ≡ (cancelled t m ss).row_slot
  slots_are =
      let e = C.long_slot in
      let f = A.linked.row_count in
      ext_get_or 0 m'.row_slot (cancelled t m ss).row_slot (e ∙ f ∙ sym lists.rows)
      (λ r h. C.row_slot r ∙ row_left r ∙ sym (lists.row_slot r (omega arith)))

  unions_are : record { parents = m'.parent; ranks = m'.rank } ≡ unions t m ss
  unfolding met_first unite_pairs
  unions_are = C.united

  -- THE STATE LEFT
  pub cancelling_end : memory m.head m.cells m'.parent m'.rank m.cell_mark m'.slot_row m'.slot_cell m'.prev m'.next m'.row_slot m.row_mark
      ≡ cancelled t m ss
  unfolding cancelled
  cancelling_end = rw (rows_are, cells_are, prevs_are, nexts_are, slots_are, ap (λ u. u.parents) unions_are, ap (λ u. u.ranks) unions_are)

  pub cancelling_count : pairs ≡ length (met_first t m [] ss)
  unfolding met_first
  cancelling_count = let c = C.count in omega arith
