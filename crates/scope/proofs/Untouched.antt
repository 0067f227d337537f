-- UNTOUCHED RINGS: one more accepted cell leaves every ring that holds no reverse of an edge of its outline as it was, link for link. This
-- holds of any state that passes the rules.
--     rows_permute      the next row is a permutation of the rows with a slot
--     link_left         a row and the row after it whose reverses are not in the new outline: both keep their slots, and the link
--     ring_left         the whole ring
-- Assumes nothing.
use mathlib.Core.Path.{◌≡◌, sym, ◌∙◌, ap, subst}
use mathlib.Core.Logic.{◌⊎◌, inl, inr}
use mathlib.Core.Bool.{true}
use mathlib.Core.List.{Memᴰ}
use Prim.Native.Nat.{ℕ, suc}
use Rattle.scope.specs.Lists.{at}
use Rattle.scope.specs.Table.{Table, row_count, reverse_of, outline_rows}
use Rattle.scope.specs.Memory.{Memory, slot_of, row_in, has_slot}
use Rattle.scope.specs.Afresh.{ring}
use Rattle.scope.specs.Pool.{taking}
use Rattle.scope.proofs.Lands.{lands_stay}
use Rattle.scope.proofs.Cycle.{Permutes, iter, iter_in, iter_last}
use Rattle.scope.proofs.Rings.{ring_mem, ring_same}
use Rattle.scope.proofs.Linked.{Has, has_true, true_has, Linked, has_in, slot_used, row_has, row_slot, slot_row}
use Rattle.scope.proofs.Cancelling.{row_after, has_cancelled, cancelled_successor}
use Rattle.scope.proofs.Sound.{sound_reverses, sound_linked, none_both, Offered}
use Rattle.scope.proofs.Taking.{placed_for, taken_cancelled, offered_linked}
use Rattle.scope.proofs.TakingStates.{taken_beside}

module _ {t : Table} {m : Memory} (L : Linked t m) where
  pub after_has : (a : ℕ) → Has m a → Has m (row_after m a)
  after_has a h = row_has L (at m.next (slot_of m a)) (L.next_used (slot_of m a) (slot_used L a h))

  -- the slot of the next row, and the slot before it
  pub slot_after : (a : ℕ) → Has m a → slot_of m (row_after m a) ≡ at m.next (slot_of m a)
  slot_after a h = slot_row L (at m.next (slot_of m a)) (L.next_used (slot_of m a) (slot_used L a h))

  slot_before : (a : ℕ) → Has m a → at m.prev (slot_of m (row_after m a)) ≡ slot_of m a
  slot_before a h = ap (at m.prev) (slot_after a h) ∙ L.prev_next (slot_of m a) (slot_used L a h)

  pub rows_permute : Permutes (row_count t) (λ a. has_slot m a ≡ true) (row_after m)
  rows_permute = record {
    small = λ a e. has_in L a (true_has m a e);
    keeps = λ a e. has_true m (row_after m a) (after_has a (true_has m a e));
    injects = λ a b e d q.
        let h = true_has m a e in
        let k = true_has m b d in
        sym (row_slot L a h) ∙ ap (row_in m) (sym (slot_before a h) ∙ ap (λ (r : ℕ). at m.prev (slot_of m r)) q ∙ slot_before b k) ∙ row_slot L b k;
  }

module _ {t : Table} {m : Memory} {x : ℕ} (O : Offered t m x) where
  -- a row whose reverse is not in the new outline keeps its slot
  pub kept : (a : ℕ) → Has m a → (Memᴰ (reverse_of t a) (outline_rows t x) → ⊥) → Has (placed_for t m x) a × (Has (placed_for t m x) (reverse_of t a) → ⊥)
  kept a h n = ((taken_beside O).rows.old a h, λ k. go ((taken_beside O).rows.either (reverse_of t a) k))
    where
      go : Has m (reverse_of t a) ⊎ Memᴰ (reverse_of t a) (outline_rows t x) → ⊥
      go (inl k) = none_both O.sound a h k
      go (inr i) = n i

  pub has_left : (a : ℕ) → Has m a → (Memᴰ (reverse_of t a) (outline_rows t x) → ⊥) → Has (taking t m x) a
  has_left a h n = let k = kept a h n in has_cancelled (sound_reverses O.sound) (offered_linked O) (taken_cancelled t m x) a k.0 k.1

  pub link_left : (a : ℕ) → Has m a → (Memᴰ (reverse_of t a) (outline_rows t x) → ⊥) → (Memᴰ (reverse_of t (row_after m a)) (outline_rows t x) → ⊥)
      → row_after (taking t m x) a ≡ row_after m a
  link_left a h n d =
      let same : row_after (placed_for t m x) a ≡ row_after m a = (taken_beside O).rows.on_old a h in
      let k = kept (row_after m a) (after_has (sound_linked O.sound) a h) d in
      lands_stay (subst (λ (b : ℕ). Has (placed_for t m x) b × (Has (placed_for t m x) (reverse_of t b) → ⊥)) (sym same) k)
      (cancelled_successor (sound_reverses O.sound) (offered_linked O) (taken_cancelled t m x) a (has_left a h n)) ∙ same

  -- UNTOUCHED RINGS
  module _ (a : ℕ) (h : Has m a) (untouched : (b : ℕ) → Memᴰ b (ring (row_count t) (row_after m) a) → Memᴰ (reverse_of t b) (outline_rows t x) → ⊥) where
    R : Permutes (row_count t) (λ r. has_slot m r ≡ true) (row_after m)
    R = rows_permute (sound_linked O.sound)

    row : (k : ℕ) → Has m (iter (row_after m) k a)
    row k = true_has m (iter (row_after m) k a) (iter_in R k a (has_true m a h))

    apart : (k : ℕ) → Memᴰ (reverse_of t (iter (row_after m) k a)) (outline_rows t x) → ⊥
    apart k = untouched (iter (row_after m) k a) (ring_mem R a (has_true m a h) k)

    pub ring_links : (k : ℕ) → row_after (taking t m x) (iter (row_after m) k a) ≡ row_after m (iter (row_after m) k a)
    ring_links k =
        link_left (iter (row_after m) k a) (row k) (apart k) (subst (λ (b : ℕ). Memᴰ (reverse_of t b) (outline_rows t x) → ⊥) (iter_last (row_after m) k a) (apart (suc k)))

    pub ring_left : ring (row_count t) (row_after (taking t m x)) a ≡ ring (row_count t) (row_after m) a
    ring_left = ring_same R (row_after (taking t m x)) a (has_true m a h) ring_links
