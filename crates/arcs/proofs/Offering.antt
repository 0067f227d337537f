-- What the cancelling loop asks, of a sound state with an accepted cell's outline placed.
--     slots_placed      the slots of the outline's rows are those that placing gave them
--     placed_free       free slots are cleared
--     placed_met        of each pair that cancels one is of the outline
--     placed_asks       all of it
-- Assumes nothing.
use mathlib.Core.Path.{◌≡◌, sym, ap, ◌∙◌, subst}
use mathlib.Core.Logic.{◌⊎◌, inl, inr, ⊎_elim}
use mathlib.Core.Bool.{true}
use mathlib.Core.List.Memᴰ
use mathlib.Core.List.{List, Memᴰ}
use Prim.Native.Nat.{ℕ, suc, ◌-◌, ◌<◌}
use native.Mathlib.Omega.{arith}
use lib.ListN.{length, length-map}
use lib.Seq.{ext_get_or}
use Rattle.scope.specs.Lists.{at}
use Rattle.scope.specs.Table.{Table, row_count, reverse_of, outline_rows}
use Rattle.scope.specs.Memory.{Memory, held, slots, row_in}
use Rattle.scope.specs.Pool.{slots_for, placed, cancels, reverse_slot}
use Rattle.scope.proofs.Members.{mem_at, place}
use Rattle.scope.proofs.Rules.{SlotFree}
use Rattle.scope.proofs.Successor.{Reverses}
use Rattle.scope.proofs.Linked.{Used, Has, Linked, row_has, cancels_used, mate_row, mate_cancels}
use Rattle.scope.proofs.Puts.{put_all_length}
use Rattle.scope.proofs.Placed.{placed_used}
use Rattle.scope.proofs.Sound.{Offered, sound_reverses, sound_linked, none_both, offered_outline, offered_room}
use Rattle.scope.proofs.Taking.{placed_for, offered_placed, offered_many, offered_linked, placed_cell, placed_forest}
use Rattle.placing.specs.Place.{slots_at}
use Rattle.arcs.specs.CancelRows.{CancelAsks}
use Rattle.placing.proofs.Linking.{slots_at_lem}

module _ {t : Table} {m : Memory} {x : ℕ} (O : Offered t m x) where
  abbrev p : Memory
  p = placed_for t m x

  abbrev o : List ℕ
  o = outline_rows t x

  pub slots_placed : slots_at (placed_for t m x).row_slot (outline_rows t x) ≡ slots_for m (outline_rows t x)
  slots_placed = ext_get_or 0 (slots_at p.row_slot o) (slots_for m o) (length-map o _ ∙ sym (offered_many O))
      (λ i h. let l : i < length o = rw (length-map o _) at h in
      slots_at_lem p.row_slot o i l ∙ ap (λ (k : ℕ). k - 1) ((offered_placed O).new_slot i l) ∙ omega arith)

  -- a slot that is free now is none of the outline's, and was free before
  not_new : (s : ℕ) → at p.slot_row s ≡ 0 → Memᴰ s (slots_for m o) → ⊥
  not_new s e i =
      let q = place i in
      let n = offered_many O in
      let k = (offered_placed O).new_row q.0 (omega (arith, q.1)) in
      let r : at p.slot_row (at (slots_for m o) q.0) ≡ 0 = ap (at p.slot_row) q.2 ∙ e in
      omega arith

  pub placed_free : (s : ℕ) → s < slots (placed_for t m x) → at (placed_for t m x).slot_row s ≡ 0 → SlotFree (placed_for t m x) s
  placed_free s h e =
      let P = offered_placed O in
      let n = not_new s e in
      let f = O.sound.rules.slot_free s (rw P.pool at h) (sym (P.old_row s n) ∙ e) in
      record {
        cell_clear = P.old_cell s n ∙ f.cell_clear;
        prev_clear = P.old_prev s n ∙ f.prev_clear;
        next_clear = P.old_next s n ∙ f.next_clear;
      }

  -- a used slot is of the outline, or was used before
  either : (s : ℕ) → Used p s → Memᴰ s (slots_for m o) ⊎ (Used m s × (Memᴰ s (slots_for m o) → ⊥))
  either s u = ⊎_elim
      (λ (w : (i : ℕ) × (i < length o) × (at (slots_for m o) i ≡ s)). inl (Memᴰ.cast (sym w.2) (mem_at (slots_for m o) w.0 (rw (offered_many O) w.1))))
      (λ w. inr w)
      (placed_used (sound_linked O.sound) (offered_outline O) (offered_many O) (offered_placed O) s u)

  pub placed_met : (s : ℕ) → cancels t (placed_for t m x) s ≡ true
      → Memᴰ s (slots_for m (outline_rows t x)) ⊎ Memᴰ (reverse_slot t (placed_for t m x) s) (slots_for m (outline_rows t x))
  placed_met s c = go (either s (cancels_used t p s c)) (either y (cancels_used t p y (mate_cancels R L s c)))
    where
      R : Reverses (λ a. a < row_count t) (reverse_of t)
      R = sound_reverses O.sound

      L : Linked t p
      L = offered_linked O

      y : ℕ
      y = reverse_slot t p s

      -- the rows of old slots are as they were
      row_was : (w : ℕ) → (Memᴰ w (slots_for m o) → ⊥) → row_in p w ≡ row_in m w
      row_was w n = ap (λ (k : ℕ). k - 1) ((offered_placed O).old_row w n)

      go : Memᴰ s (slots_for m o) ⊎ (Used m s × (Memᴰ s (slots_for m o) → ⊥)) → Memᴰ y (slots_for m o) ⊎ (Used m y × (Memᴰ y (slots_for m o) → ⊥))
          → Memᴰ s (slots_for m o) ⊎ Memᴰ y (slots_for m o)
      go (inl i) b = inl i
      go (inr a) (inl i) = inr i
      go (inr (u, n)) (inr (v, k)) = absurd (none_both O.sound (row_in m s) (row_has (sound_linked O.sound) s u)
          (subst (Has m) (sym (row_was y k) ∙ mate_row R L s c ∙ ap (reverse_of t) (row_was s n)) (row_has (sound_linked O.sound) y v)))

  pub placed_asks : CancelAsks t (placed_for t m x) (suc (held m)) (outline_rows t x)
  unfolding placed
  placed_asks =
      let l = O.sound.lengths in
      let P = offered_placed O in
      let pool = P.pool in
      let r = offered_room O in
      let most = l.most_places in
      let few = l.most_slots in
      record {
        reverses = sound_reverses O.sound;
        linked = offered_linked O;
        free = placed_free;
        cells = placed_cell O;
        forest = placed_forest O;
        once = (offered_outline O).once;
        has = λ i h z. let e = P.new_slot i h in omega arith;
        met = λ s c. rw slots_placed (placed_met s c);
        even_reverse = l.reverse;
        even_cell = put_all_length _ _ m.slot_cell ∙ l.slot_cell ∙ sym pool;
        even_prev = put_all_length _ _ m.prev ∙ l.prev ∙ sym pool;
        even_next = put_all_length _ _ m.next ∙ l.next ∙ sym pool;
        slots_fit = omega arith;
        cells_fit = omega arith;
      }
