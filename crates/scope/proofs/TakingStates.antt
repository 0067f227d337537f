-- ONE MORE CELL, AS THE CALLS READ IT: on any sound state that accepts the cell, `taking` is the new outline beside the rows held, then all
-- pairs gone: what the laws of one more accepted cell ask for.
--     taken_beside      placing
--     pair_met          a pair that cancels is met at one of its rows, or both rows are the new cell's
--     taken_gone        cancelling
-- Assumes nothing.
use mathlib.Core.Path.{◌≡◌, refl, sym, ◌∙◌, ap, subst}
use mathlib.Core.Logic.{◌⊎◌, inl, inr}
use mathlib.Core.List.Memᴰ
use mathlib.Core.List.{List, [], Memᴰ}
use Prim.Native.Nat.{ℕ, suc, ◌-◌, ◌<◌}
use native.Mathlib.Omega.{arith}
use lib.ListN.{length}
use lib.Seq.{get_or-set_same, get_or-set_other}
use Rattle.scope.specs.Lists.{at}
use Rattle.scope.specs.Table.{Table, row_count, reverse_of, outline_rows}
use Rattle.scope.specs.Standing.{next_in, Chain, alone, pair, back}
use Rattle.scope.specs.UnionFind.{root_of}
use Rattle.scope.specs.Memory.{Memory, held, slot_of, row_in}
use Rattle.scope.specs.Pool.{slots_for, placed, reverse_slot, taking}
use Rattle.scope.proofs.Members.{mem_at, place}
use Rattle.scope.proofs.Successor.{Reverses}
use Rattle.scope.proofs.Offer.{Joined}
use Rattle.scope.proofs.Outlines.{onward, onward_lt, next_in_at}
use Rattle.scope.proofs.Labels.{Labelled, labelled_chain}
use Rattle.scope.proofs.Forest.{new_roots}
use Rattle.scope.proofs.States.{Beside, Unites, PairsGone}
use Rattle.scope.proofs.StateOf.{state_of}
use Rattle.scope.proofs.Joining.{roots_are, parents_are}
use Rattle.scope.proofs.Linked.{Has, has_dec, Linked, has_in, slot_used, row_has, row_slot, slot_row, cancels_used, cancels_has, cancels_from}
use Rattle.scope.proofs.Placed.{Placeable, Placed, used_old, has_kept, has_new, placed_has}
use Rattle.scope.proofs.Cancelling.{row_after, Cancelled, cancelled_has, has_cancelled, has_left, slot_stays, cell_left, cancelled_successor}
use Rattle.scope.proofs.Pairs.{met_in, met_first_lem, PairOf, united_labels}
use Rattle.scope.proofs.Sound.{sound_reverses, sound_linked, none_both, Offered, offered_room, offered_outline}
use Rattle.scope.proofs.Taking.{placed_for, one_place_more, pairs_met, taken_parent, taken_cancelled, offered_placed, offered_many, offered_linked, sound_forest, placed_forest, pairs_held}

module _ {t : Table} {m : Memory} {x : ℕ} (O : Offered t m x) where
  abbrev p : Memory
  p = placed_for t m x

  abbrev o : List ℕ
  o = outline_rows t x

  abbrev n : ℕ
  n = held m

  L : Linked t m
  L = sound_linked O.sound

  P : Placed m (outline_rows t x) (placed_for t m x)
  P = offered_placed O

  f : Placeable t m (outline_rows t x)
  f = offered_outline O

  many : length (slots_for m (outline_rows t x)) ≡ length (outline_rows t x)
  many = offered_many O

  -- ---- the outline beside the rows held

  -- the next row of an old row, and of one of the outline
  after_old : (a : ℕ) → Has m a → row_after p a ≡ row_after m a
  after_old a h =
      let u = slot_used L a h in
      let v = L.next_used (slot_of m a) u in
      ap (λ (k : ℕ). row_in p (at p.next (k - 1))) (P.old_slot a (λ i. f.none_held a i h))
      ∙ ap (row_in p) (P.old_next (slot_of m a) (used_old L f many P (slot_of m a) u))
      ∙ ap (λ (k : ℕ). k - 1) (P.old_row (at m.next (slot_of m a)) (used_old L f many P (at m.next (slot_of m a)) v))

  slot_new : (i : ℕ) → i < length o → slot_of p (at o i) ≡ at (slots_for m o) i
  slot_new i h = ap (λ (k : ℕ). k - 1) (P.new_slot i h) ∙ omega arith

  row_new : (i : ℕ) → i < length o → row_in p (at (slots_for m o) i) ≡ at o i
  row_new i h = ap (λ (k : ℕ). k - 1) (P.new_row i h) ∙ omega arith

  after_new : (i : ℕ) → i < length o → row_after p (at o i) ≡ next_in o (at o i)
  after_new i h =
      let j = onward (length o) i in
      ap (λ (k : ℕ). row_in p (at p.next k)) (slot_new i h)
      ∙ ap (row_in p) (P.new_next i h) ∙ row_new j (onward_lt (length o) i h) ∙ sym (next_in_at o i f.once h)

  rows_joined : Joined (Has m) (λ a. Memᴰ a o) (Has p) (row_after m) (next_in o) (row_after p)
  rows_joined = record {
    old = has_kept L f many P;
    new = λ a i. let q = place i in subst (Has p) q.2 (has_new L f many P q.0 q.1);
    either = λ a h. split a (placed_has L f many P a h);
    apart = λ a h i. f.none_held a i h;
    on_old = after_old;
    on_new = λ a i. let q = place i in subst (λ (w : ℕ). row_after p w ≡ next_in o w) q.2 (after_new q.0 q.1);
  }
    where
      split : (a : ℕ) → ((i : ℕ) × (i < length o) × (at o i ≡ a)) ⊎ (Has m a × (Memᴰ a o → ⊥)) → Has m a ⊎ Memᴰ a o
      split a (inl (i, h, e)) = inr (Memᴰ.cast (sym e) (mem_at o i h))
      split a (inr (h, k)) = inl h

  -- in whose name
  cell_old : (a : ℕ) → Has m a → at p.slot_cell (slot_of p a) ≡ at m.slot_cell (slot_of m a)
  cell_old a h =
      ap (λ (k : ℕ). at p.slot_cell (k - 1)) (P.old_slot a (λ i. f.none_held a i h))
      ∙ P.old_cell (slot_of m a) (used_old L f many P (slot_of m a) (slot_used L a h))

  cell_new : (a : ℕ) → Memᴰ a o → at p.slot_cell (slot_of p a) ≡ n
  cell_new a i =
      let q = place i in
      ap (λ (r : ℕ). at p.slot_cell (slot_of p r)) (sym q.2) ∙ ap (at p.slot_cell) (slot_new q.0 q.1) ∙ P.new_cell q.0 q.1

  -- ---- roots with one more place

  parent_old : (i : ℕ) → i < n → at p.parent i ≡ at m.parent i
  unfolding placed
  parent_old i h = get_or-set_other m.parent n i n 0 (omega arith)

  parent_new : at p.parent n ≡ n
  unfolding placed
  parent_new = get_or-set_same m.parent n n 0 (let l = O.sound.lengths.parent in let r = offered_room O in omega arith)

  pub taken_beside : Beside t x (held m) (state_of m) (state_of (placed_for t m x))
  taken_beside =
      let w = sound_forest O in
      let roots = new_roots (parents_are w) parent_old parent_new (roots_are w) (roots_are (placed_forest O)) in
      record { rows = rows_joined; old_cell = cell_old; new_cell = cell_new; old_root = roots.0; new_root = roots.2 }

  -- ---- all pairs gone

  R : Reverses (λ a. a < row_count t) (reverse_of t)
  R = sound_reverses O.sound

  Lp : Linked t (placed_for t m x)
  Lp = offered_linked O

  C : Cancelled t (placed_for t m x) (taking t m x)
  C = taken_cancelled t m x

  -- a row of the new cell is in a new slot, any other was held before
  slot_where : (a : ℕ) → Has p a → (Memᴰ (slot_of p a) (slots_for m o) × (at p.slot_cell (slot_of p a) ≡ n)) ⊎ (Has m a × (Memᴰ (slot_of p a) (slots_for m o) → ⊥))
  slot_where a h = go (placed_has L f many P a h)
    where
      go : ((i : ℕ) × (i < length o) × (at o i ≡ a)) ⊎ (Has m a × (Memᴰ a o → ⊥))
          → (Memᴰ (slot_of p a) (slots_for m o) × (at p.slot_cell (slot_of p a) ≡ n)) ⊎ (Has m a × (Memᴰ (slot_of p a) (slots_for m o) → ⊥))
      go (inl (i, k, e)) = inl (Memᴰ.cast (ap (slot_of p) (sym e) ∙ slot_new i k) (mem_at (slots_for m o) i (omega (arith, many))), cell_new a (Memᴰ.cast (sym e) (mem_at o i k)))
      go (inr (g, k)) = inr (g, λ i. used_old L f many P (slot_of m a) (slot_used L a g) (Memᴰ.cast (ap (λ (w : ℕ). w - 1) (sym (P.old_slot a k))) i))

  -- two places with one root, or a pair that is met
  abbrev OneRootOrMet : ℕ → ℕ → Type 0
  OneRootOrMet i j = ((i < suc n) × (j < suc n) × (root_of p.parent i ≡ root_of p.parent j)) ⊎ PairOf t p (pairs_met t m x) i j

  -- a slot that cancels, whose reverse is in an old slot
  met : (a : ℕ) → Has p a → Has p (reverse_of t a) → Memᴰ (slot_of p a) (slots_for m o) → (Memᴰ (slot_of p (reverse_of t a)) (slots_for m o) → ⊥)
      → PairOf t p (pairs_met t m x) (at p.slot_cell (slot_of p a)) (at p.slot_cell (slot_of p (reverse_of t a)))
  met a h k i d =
      let s = slot_of p a in
      let row = row_slot Lp a h in
      let mate : reverse_slot t p s ≡ slot_of p (reverse_of t a) = ap (λ (r : ℕ). slot_of p (reverse_of t r)) row in
      let c = cancels_from t p s (slot_used Lp a h) (subst (λ (r : ℕ). Has p (reverse_of t r)) (sym row) k) in
      (s, met_first_lem t p [] (slots_for m o) s i c Memᴰ.not-nil (λ j. d (Memᴰ.cast (sym mate) j)), refl, ap (at p.slot_cell) (sym mate))

  -- a pair that cancels is met at one of its rows, or both are the new cell's
  pair_met : (a i j : ℕ) → Has p a → Has p (reverse_of t a) → at p.slot_cell (slot_of p a) ≡ i → at p.slot_cell (slot_of p (reverse_of t a)) ≡ j → Chain OneRootOrMet i j
  pair_met a i j h k e d = go (slot_where a h) (slot_where (reverse_of t a) k)
    where
      back_row : reverse_of t (reverse_of t a) ≡ a
      back_row = R.rev_rev a (has_in Lp a h)

      ends : {u v : ℕ} → u ≡ i → v ≡ j → Chain OneRootOrMet u v → Chain OneRootOrMet i j
      ends {u} q r c = subst (λ (w : ℕ). Chain OneRootOrMet w j) q (subst (Chain OneRootOrMet u) r c)

      go : (Memᴰ (slot_of p a) (slots_for m o) × (at p.slot_cell (slot_of p a) ≡ n)) ⊎ (Has m a × (Memᴰ (slot_of p a) (slots_for m o) → ⊥))
          → (Memᴰ (slot_of p (reverse_of t a)) (slots_for m o) × (at p.slot_cell (slot_of p (reverse_of t a)) ≡ n))
          ⊎ (Has m (reverse_of t a) × (Memᴰ (slot_of p (reverse_of t a)) (slots_for m o) → ⊥)) → Chain OneRootOrMet i j
      go (inl u) (inl v) = subst (Chain OneRootOrMet i) (sym e ∙ u.1 ∙ sym v.1 ∙ d) alone
      go (inl u) (inr v) = ends e d (pair (inr (met a h k u.0 v.1)))
      go (inr u) (inl v) =
          let other = met (reverse_of t a) k (subst (Has p) (sym back_row) h) v.0 (λ w. u.1 (Memᴰ.cast (ap (slot_of p) (sym back_row)) w)) in
          ends (ap (λ (r : ℕ). at p.slot_cell (slot_of p r)) back_row ∙ e) d (back (pair (inr other)))
      go (inr u) (inr v) = absurd (none_both O.sound a u.0 v.0)

  roots_united : Labelled (suc n) (Unites t (suc n) (state_of p)) (root_of (taking t m x).parent)
  roots_united = rw (taken_parent t m x) (labelled_chain to from (λ i j e. (e.0, e.1))
      (united_labels t p (suc n) (pairs_met t m x) (one_place_more t m x) (placed_forest O) (pairs_held O) plain))
    where
      plain : Labelled (suc n) (λ i j. (i < suc n) × (j < suc n) × (root_of p.parent i ≡ root_of p.parent j)) (root_of p.parent)
      plain = record { sound = λ i j h k e. pair (h, k, e); complete = λ i j e. e.2; pairs_in = λ i j e. (e.0, e.1) }

      to : (i j : ℕ) → OneRootOrMet i j → Chain (Unites t (suc n) (state_of p)) i j
      to i j (inl (h, k, e)) = pair (h, k, inl e)
      to i j (inr (s, a, e, d)) =
          let c = (met_in t p [] (slots_for m o) s a).1 in
          let u = cancels_used t p s c in
          let h = pairs_held O s a in
          pair (
            subst (λ (w : ℕ). w < suc n) (sym e) h.0,
            subst (λ (w : ℕ). w < suc n) (sym d) h.1,
            inr (row_in p s, row_has Lp s u, cancels_has t p s c, ap (at p.slot_cell) (slot_row Lp s u) ∙ sym e, sym d),
          )

      from : (i j : ℕ) → Unites t (suc n) (state_of p) i j → Chain OneRootOrMet i j
      from i j (h, k, inl e) = pair (inl (h, k, e))
      from i j (h, k, inr (a, g, r, e, d)) = pair_met a i j g r e d

  pub taken_gone : PairsGone t (suc (held m)) (state_of (placed_for t m x)) (state_of (taking t m x))
  taken_gone = record {
    dec = has_dec p;
    out = cancelled_has R Lp C;
    stay = λ a s. has_cancelled R Lp C a s.0 s.1;
    rule = cancelled_successor R Lp C;
    cell = λ a h.
        let s = cancelled_has R Lp C a h in
        ap (λ (k : ℕ). at (taking t m x).slot_cell (k - 1)) (has_left R Lp C a s.0 s.1) ∙ cell_left R Lp C (slot_of p a) (slot_stays R Lp C a s.0 s.1);
    united = roots_united;
  }
