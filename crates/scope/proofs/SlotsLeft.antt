-- UNTOUCHED RINGS, SLOT FOR SLOT: one more accepted offer leaves every ring that holds no reverse of an edge of its outline where it was: each
-- row keeps its slot, and the slot its row, its cell and both its links. This holds of any memory that accepts the offer.
--     SlotLeft m m' a     the row has the slot it had, and the slot holds what it held
--     slot_left           a row whose own reverse, and those of the rows before and after it, are not in the new outline
--     ring_slots          every row of the ring; `offer_slots`, `offer_ring`: over the call
-- Assumes nothing.
use mathlib.Core.Path.{◌≡◌, sym, ◌∙◌, ap, subst}
use mathlib.Core.Bool.{true, not}
use mathlib.Core.List.{List, Memᴰ}
use Prim.Native.Nat.{ℕ, zero, suc, ◌+◌, ◌-◌}
use native.Mathlib.Omega.{arith}
use Rattle.std.specs.Prelude.{Ok}
use Rattle.scope.specs.Lists.{at}
use Rattle.scope.specs.Answers.{if_accepted, Verdict}
use Rattle.scope.specs.Table.{Table, row_count, reverse_of, outline_rows}
use Rattle.scope.specs.Standing.{here}
use Rattle.scope.specs.Memory.{Memory, slots, slot_of, row_in, has_slot}
use Rattle.scope.specs.Afresh.{ring}
use Rattle.scope.specs.Pool.{slots_for, cancels, stays, relinked, taking}
use Rattle.scope.specs.Calls.{offer_verdict, offering}
use Rattle.scope.proofs.Finite.{steps, follow_is}
use Rattle.scope.proofs.Cycle.{Period, period, iter, iter_in, iter_last, iter_add}
use Rattle.scope.proofs.Rings.{ring_mem, mem_ring}
use Rattle.scope.proofs.Linked.{Has, has_true, true_has, Linked, slot_used, row_has, row_slot, slot_row, stays_not}
use Rattle.scope.proofs.Placed.{Placed, used_old, has_old}
use Rattle.scope.proofs.Cancelling.{row_after, row_left, cell_left, prev_left, next_left, slot_stays}
use Rattle.scope.proofs.Cancelling as Cancelling
use Rattle.scope.proofs.Sound.{sound_reverses, sound_linked, Offered, offered, offered_outline}
use Rattle.scope.proofs.Taking.{placed_for, taken_cancelled, offered_placed, offered_many, offered_linked}
use Rattle.scope.proofs.Untouched.{rows_permute, after_has, slot_after, kept, ring_left}

pub record SlotLeft (m m' : Memory) (a : ℕ) : Type 0 where
  pub row_slot : at m'.row_slot a ≡ at m.row_slot a
  pub slot_row : at m'.slot_row (slot_of m a) ≡ at m.slot_row (slot_of m a)
  pub slot_cell : at m'.slot_cell (slot_of m a) ≡ at m.slot_cell (slot_of m a)
  pub prev : at m'.prev (slot_of m a) ≡ at m.prev (slot_of m a)
  pub next : at m'.next (slot_of m a) ≡ at m.next (slot_of m a)

-- a link to a slot that stays is left
linked_on : (t : Table) (m : Memory) (links : List ℕ) (s : ℕ) → stays t m (at links s) ≡ true → relinked t m links s ≡ at links s
unfolding relinked steps
linked_on t m links s e = follow_is (λ w. not (cancels t m w)) (slots m) (here (ap not (stays_not t m (at links s) e))) (omega arith)

-- ---- the row before

abbrev pub row_before : Memory → ℕ → ℕ
row_before m a = row_in m (at m.prev (slot_of m a))

module _ {t : Table} {m : Memory} (L : Linked t m) where
  before_slot : (a : ℕ) → Has m a → slot_of m (row_before m a) ≡ at m.prev (slot_of m a)
  before_slot a h = slot_row L (at m.prev (slot_of m a)) (L.prev_used (slot_of m a) (slot_used L a h))

  before_has : (a : ℕ) → Has m a → Has m (row_before m a)
  before_has a h = row_has L (at m.prev (slot_of m a)) (L.prev_used (slot_of m a) (slot_used L a h))

  after_before : (a : ℕ) → Has m a → row_after m (row_before m a) ≡ a
  after_before a h =
      ap (λ (s : ℕ). row_in m (at m.next s)) (before_slot a h) ∙ ap (row_in m) (L.next_prev (slot_of m a) (slot_used L a h)) ∙ row_slot L a h

  -- it is one of the rows that the next rows lead to
  before_in : (a : ℕ) → Has m a → (k : ℕ) × (row_before m a ≡ iter (row_after m) k a)
  before_in a h = let q = period (rows_permute L) a (has_true m a h) in go q.0 q.1
    where
      go : (p : ℕ) → Period (row_after m) a p → (k : ℕ) × (row_before m a ≡ iter (row_after m) k a)
      go zero P = absurd (let z = P.some in omega arith)
      go (suc k) P =
          let R = rows_permute L in (
            k,
            R.injects (row_before m a) (iter (row_after m) k a) (has_true m _ (before_has a h)) (iter_in R k a (has_true m a h))
                (after_before a h ∙ sym P.back ∙ iter_last (row_after m) k a),
          )

module _ {t : Table} {m : Memory} {x : ℕ} (O : Offered t m x) where
  L : Linked t m
  L = sound_linked O.sound

  P : Placed m (outline_rows t x) (placed_for t m x)
  P = offered_placed O

  abbrev Apart : ℕ → Type 0
  Apart a = Memᴰ (reverse_of t a) (outline_rows t x) → ⊥

  -- with the outline placed an old row has its slot, and the slot its links
  old_slot : (a : ℕ) → Has m a → at (placed_for t m x).row_slot a ≡ at m.row_slot a
  old_slot a h = P.old_slot a (has_old L (offered_outline O) (offered_many O) P a h)

  not_new : (a : ℕ) → Has m a → Memᴰ (slot_of m a) (slots_for m (outline_rows t x)) → ⊥
  not_new a h = used_old L (offered_outline O) (offered_many O) P (slot_of m a) (slot_used L a h)

  stays_there : (a : ℕ) → Has m a → Apart a → stays t (placed_for t m x) (slot_of m a) ≡ true
  stays_there a h n =
      let k = kept O a h n in
      subst (λ (s : ℕ). stays t (placed_for t m x) s ≡ true) (ap (λ (v : ℕ). v - 1) (old_slot a h))
      (slot_stays (sound_reverses O.sound) (offered_linked O) (taken_cancelled t m x) a k.0 k.1)

  pub slot_left : (a : ℕ) → Has m a → (Memᴰ (reverse_of t a) (outline_rows t x) → ⊥) → (Memᴰ (reverse_of t (row_before m a)) (outline_rows t x) → ⊥)
      → (Memᴰ (reverse_of t (row_after m a)) (outline_rows t x) → ⊥) → SlotLeft m (taking t m x) a
  slot_left a h n before after =
      let p = placed_for t m x in
      let s = slot_of m a in
      let R = sound_reverses O.sound in
      let Q = offered_linked O in
      let C = taken_cancelled t m x in
      let k = kept O a h n in
      let e = stays_there a h n in
      let old_next = P.old_next s (not_new a h) in
      let old_prev = P.old_prev s (not_new a h) in
      let next_stays : stays t p (at p.next s) ≡ true =
      subst (λ (u : ℕ). stays t p u ≡ true) (slot_after L a h ∙ sym old_next) (stays_there (row_after m a) (after_has L a h) after) in
      let prev_stays : stays t p (at p.prev s) ≡ true =
      subst (λ (u : ℕ). stays t p u ≡ true) (before_slot L a h ∙ sym old_prev) (stays_there (row_before m a) (before_has L a h) before) in
      record {
        row_slot = Cancelling.has_left R Q C a k.0 k.1 ∙ old_slot a h;
        slot_row = row_left R Q C s e ∙ P.old_row s (not_new a h);
        slot_cell = cell_left R Q C s e ∙ P.old_cell s (not_new a h);
        prev = prev_left R Q C s e ∙ linked_on t p p.prev s prev_stays ∙ old_prev;
        next = next_left R Q C s e ∙ linked_on t p p.next s next_stays ∙ old_next;
      }

  -- UNTOUCHED RINGS, SLOT FOR SLOT
  module _ (a : ℕ) (h : Has m a) (untouched : (b : ℕ) → Memᴰ b (ring (row_count t) (row_after m) a) → Memᴰ (reverse_of t b) (outline_rows t x) → ⊥) where
    apart : (k : ℕ) → Apart (iter (row_after m) k a)
    apart k = untouched (iter (row_after m) k a) (ring_mem (rows_permute L) a (has_true m a h) k)

    pub ring_slots : (b : ℕ) → Memᴰ b (ring (row_count t) (row_after m) a) → SlotLeft m (taking t m x) b
    ring_slots b i =
        let R = rows_permute L in
        let k = mem_ring R a b (has_true m a h) i in
        let has : Has m b = subst (Has m) (sym k.1) (true_has m _ (iter_in R k.0 a (has_true m a h))) in
        let j = before_in L b has in
        let before : row_before m b ≡ iter (row_after m) (j.0 + k.0) a = j.1 ∙ ap (iter (row_after m) j.0) k.1 ∙ sym (iter_add (row_after m) j.0 k.0 a) in
        let after : row_after m b ≡ iter (row_after m) (suc k.0) a = ap (row_after m) k.1 ∙ sym (iter_last (row_after m) k.0 a) in
        slot_left b has (subst Apart (sym k.1) (apart k.0)) (subst Apart (sym before) (apart (j.0 + k.0))) (subst Apart (sym after) (apart (suc k.0)))

-- ---- over the call

module _ (t : Table) (m : Memory) (x : ℕ) (e : (offering t m x).answer ≡ Ok tt) where
  accepts : offer_verdict t m x ≡ Ok tt
  accepts = unfold offering in e

  offer_leaves : taking t m x ≡ (offering t m x).left
  unfolding offering
  offer_leaves = sym (ap (λ (v : Verdict). if_accepted v (taking t m x) m) accepts)

  module _ (a : ℕ) (h : has_slot m a ≡ true)
      (untouched : (b : ℕ) → Memᴰ b (ring (row_count t) (row_after m) a) → Memᴰ (reverse_of t b) (outline_rows t x) → ⊥) where
    pub offer_ring : ring (row_count t) (row_after (offering t m x).left) a ≡ ring (row_count t) (row_after m) a
    offer_ring = subst (λ (k : Memory). ring (row_count t) (row_after k) a ≡ ring (row_count t) (row_after m) a) offer_leaves
        (ring_left (offered t m x accepts) a (true_has m a h) untouched)

    pub offer_slots : (b : ℕ) → Memᴰ b (ring (row_count t) (row_after m) a) → SlotLeft m (offering t m x).left b
    offer_slots b i = subst (λ (k : Memory). SlotLeft m k b) offer_leaves (ring_slots (offered t m x accepts) a (true_has m a h) untouched b i)
