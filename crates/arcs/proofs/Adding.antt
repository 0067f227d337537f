-- The steps of `add_edges` in a row: what each asks, and what all of them leave.
--     hold_asks, outline_asks, cancel_asks     what the steps ask
--     placed_is                                the first two leave scope's `placed`
--     added                                    all of them leave scope's `taking`
-- Assumes nothing.
use mathlib.Core.Path.{◌≡◌, sym, ap, ◌∙◌}
use mathlib.Core.Logic.{⊎_elim, ◌≢◌}
use mathlib.Core.List.Memᴰ
use mathlib.Core.List.{List, [], ◌∷◌, map, Memᴰ}
use Prim.Native.Nat.{ℕ, suc, ◌+◌}
use native.Mathlib.Numerals.{add-one}
use native.Mathlib.Omega.{arith}
use lib.ListN.{length, length-map}
use Rattle.scope.specs.Lists.{at, put_all}
use Rattle.scope.specs.Table.{Table, outline_rows}
use Rattle.scope.specs.Memory.{Memory, memory, slots}
use Rattle.scope.specs.Pool.{free_slots, slots_for, placed, cancelled, taking}
use Rattle.scope.proofs.Members.{cases, mem_at}
use Rattle.scope.proofs.Puts.{put_all_length}
use Rattle.scope.proofs.Placed.{slots_fresh, slots_free, slots_in}
use Rattle.scope.proofs.Sound.{sound_table, offered_outline, offered_room}
use Rattle.scope.proofs.Taking.{placed_for, offered_many, sound_forest}
use Rattle.free_slots.specs.Search.{Flags}
use Rattle.placing.specs.Place.{free_in, slots_at}
use Rattle.pair_links.specs.Links.{pool}
use Rattle.arcs.specs.CancelRows.{reverses, CancelAsks, RowsCancelled}
use Rattle.placing.specs.Outline.{HoldAsks, CellHeld, OutlineAsks, OutlinePlaced}
use Rattle.arcs.specs.Taking.{AddAsks, Added}
use Rattle.arcs.proofs.Counting.{used_total, free_count, used_put}
use Rattle.arcs.proofs.Offering.{slots_placed, placed_asks}
use Rattle.arcs.proofs.PoolAlone.{asks_same, cancelled_same}

-- a number plus one is not 0
not_none : (l : List ℕ) (v : ℕ) → Memᴰ v (map suc l) → v ≢ 0
not_none [] v i z = Memᴰ.not-nil i
not_none (a ∷ l) v i z = ⊎_elim
    (λ (e : v ≡ suc a). omega arith)
    (λ (k : Memᴰ v (map suc l)). not_none l v k z)
    (Memᴰ.cases_cons i)

module _ {t : Table} {m : Memory} {vacant : List ℕ} {x : ℕ} {o : List ℕ} (A : AddAsks t m vacant x o) where
  pub hold_asks : HoldAsks m.head m.cells m.parent m.rank
  hold_asks =
      let l = A.offered.sound.lengths in
      let f = l.most_places in
      record { two = l.head; room = offered_room A.offered; forest = sound_forest A.offered; even = l.parent; fits = omega arith }

  pub outline_asks : {place : ℕ} → place ≡ at m.head 1 → OutlineAsks m.slot_row m.slot_cell m.prev m.next m.row_slot vacant o place
  unfolding free_slots
  outline_asks {place} e =
      let l = A.offered.sound.lengths in
      let f = offered_outline A.offered in
      let r = offered_room A.offered in
      let s = l.most_slots in
      let c = l.most_places in
      let rows = (sound_table A.offered.sound).most in
      let count = l.row_slot in
      rw A.rows (record {
        placing = record {
          in_table = λ i h. rw l.row_slot (f.in_table _ (mem_at (outline_rows t x) i h));
          enough = f.room;
          flags = A.flags;
          even = l.slot_cell;
          slots_fit = omega arith;
          rows_fit = omega arith;
          cells_fit = omega arith;
        };
        once = f.once;
        even_prev = l.prev;
        even_next = l.next;
      })

  -- ---- the cell and its outline

  module _ {place : ℕ} {head' cells' parent' rank' slotRow' slotCell' prev' next' rowSlot' vacant' : List ℕ}
      (H : CellHeld m.head m.cells m.parent m.rank x place head' cells' parent' rank')
      (P : OutlinePlaced m.slot_row m.slot_cell m.prev m.next m.row_slot o place slotRow' slotCell' prev' next' rowSlot' vacant') where
    -- the state that they leave
    abbrev pub between : Memory
    between = memory head' cells' parent' rank' m.cell_mark slotRow' slotCell' prev' next' rowSlot' m.row_mark

    pub placed_is : between ≡ placed_for t m x
    unfolding placed free_slots
    placed_is = rw (H.head_left, H.cells_left, H.parent_left, H.rank_left, P.rows, P.cells, P.prevs, P.nexts, P.slots, H.place_is, A.rows)

    asks : CancelAsks t between (place + 1) o
    asks = rw (placed_is, add-one place, H.place_is, A.rows) (placed_asks A.offered)

    pub cancel_asks : CancelAsks (reverses t.reverse) (pool parent' rank' slotRow' slotCell' prev' next' rowSlot') (place + 1) o
    cancel_asks = asks_same asks

    slots_are : slots_at rowSlot' o ≡ slots_for m (outline_rows t x)
    slots_are = rw (ap (λ (w : Memory). w.row_slot) placed_is, A.rows) (slots_placed A.offered)

    -- placing has taken as many free slots as the outline has edges
    fewer : length (free_in slotRow') + length (outline_rows t x) ≡ length (free_in m.slot_row)
    unfolding free_slots
    fewer =
        let ss = slots_for m (outline_rows t x) in
        let many = offered_many A.offered in
        let rows : slotRow' ≡ put_all ss (map suc (outline_rows t x)) m.slot_row = P.rows ∙ rw A.rows in
        let long : length slotRow' ≡ slots m = ap length rows ∙ put_all_length ss (map suc (outline_rows t x)) m.slot_row in
        let filled : used_total slotRow' (slots m) ≡ used_total m.slot_row (slots m) + length ss = rw rows
        (used_put ss (map suc (outline_rows t x)) m.slot_row (slots m) (slots_fresh m (outline_rows t x)) (length-map (outline_rows t x) suc ∙ sym many)
        (λ a i. let l = slots_in m (outline_rows t x) a i in (l, l, cases (at m.slot_row a) 0 (λ z. z) (λ u. absurd (slots_free m (outline_rows t x) a i u))))
        (not_none (outline_rows t x))) in
        let before = free_count m.slot_row in
        let after = free_count slotRow' in
        let same = ap (used_total slotRow') long in
        omega arith

    -- ALL OF IT
    pub added : {pairs : ℕ} (c : Memory) → RowsCancelled (reverses t.reverse) (pool parent' rank' slotRow' slotCell' prev' next' rowSlot') (place + 1) o pairs c
        → {vacant'' : List ℕ} → Flags vacant'' c.slot_row
        → Added t m x pairs (memory head' cells' c.parent c.rank m.cell_mark c.slot_row c.slot_cell c.prev c.next c.row_slot m.row_mark) vacant''
    unfolding taking free_slots
    added c D F = record {
      left = cancelled_same t between (slots_at rowSlot' o) A.offered.sound.lengths.reverse c D.left
          ∙ ap (λ (w : Memory). cancelled t w (slots_at rowSlot' o)) placed_is ∙ ap (cancelled t (placed_for t m x)) slots_are;
      free = let f = D.free in let k = fewer in omega arith;
      flags = F;
    }
