-- Placing in a row: the rows in their slots, then the links.
--     slots_low, slots_given     the slots are in the pool, and the rows' slot numbers name them
--     link_asks, outline_done    what linking asks after placing, and what both leave
--     add_asks, cell_held        the same for the cell and its group
-- Assumes nothing.
use mathlib.Core.Path.{◌≡◌, sym, ap, ◌∙◌}
use mathlib.Core.Bool.{not}
use mathlib.Core.List.{List, map}
use Prim.Native.Nat.{ℕ, suc, ◌+◌, ◌-◌, ◌<◌}
use native.Mathlib.Omega.{arith}
use lib.ListN.{length, set, length-map}
use lib.Seq.{ext_get_or}
use Rattle.scope.specs.Lists.{at, put_all}
use Rattle.scope.proofs.Members.{mem_at, mem_below}
use Rattle.scope.proofs.Puts.{put_all_length, put_all_at, mem_take}
use Rattle.free_slots.specs.Search.{used_in}
use Rattle.placing.specs.Place.{free_in, slots_in, slots_at, PlacedRows, LinkAsks, LinkedRows}
use Rattle.union_find.specs.Asked.{AddAsks, Added}
use Rattle.placing.specs.Outline.{HoldAsks, CellHeld, OutlineAsks, OutlinePlaced}
use Rattle.placing.proofs.Placing.{map_at, slots_many}
use Rattle.placing.proofs.Linking.{slots_at_lem}

module _ {slot_row slot_cell prev next row_slot vacant o : List ℕ} {place : ℕ} (A : OutlineAsks slot_row slot_cell prev next row_slot vacant o place) where
  many : length (slots_in slot_row o) ≡ length o
  many = slots_many A.placing

  slots_low : (i : ℕ) → i < length o → at (slots_in slot_row o) i < length slot_row
  slots_low i h = (mem_below (λ s. not (used_in slot_row s)) (length slot_row) _ (mem_take (length o) (free_in slot_row) _ (mem_at (slots_in slot_row o) i (rw many h)))).0

  given : (i : ℕ) → i < length o → at (put_all o (map suc (slots_in slot_row o)) row_slot) (at o i) ≡ suc (at (slots_in slot_row o) i)
  given i h = put_all_at o (map suc (slots_in slot_row o)) row_slot i A.once (length-map (slots_in slot_row o) suc ∙ many) h (A.placing.in_table i h)
      ∙ map_at (slots_in slot_row o) i (rw many h)

  pub slots_given : slots_at (put_all o (map suc (slots_in slot_row o)) row_slot) o ≡ slots_in slot_row o
  slots_given = ext_get_or 0 (slots_at (put_all o (map suc (slots_in slot_row o)) row_slot) o) (slots_in slot_row o) (length-map o _ ∙ sym many)
      (λ i h. let l : i < length o = rw (length-map o _) at h in
      slots_at_lem (put_all o (map suc (slots_in slot_row o)) row_slot) o i l ∙ ap (λ (k : ℕ). k - 1) (given i l) ∙ omega arith)

  module _ {slotRow' slotCell' rowSlot' vacant' : List ℕ} (P : PlacedRows slot_row slot_cell row_slot o place slotRow' slotCell' rowSlot' vacant') where
    pub link_asks : LinkAsks prev next rowSlot' o
    link_asks =
        let n = A.even_next in
        rw P.slots (record {
          in_table = λ i h. rw (put_all_length o (map suc (slots_in slot_row o)) row_slot) (A.placing.in_table i h);
          have_slots = λ i h. omega (arith, given i h);
          in_pool = λ i h. omega (arith, given i h, slots_low i h);
          even = A.even_prev ∙ sym n;
          fits = rw n A.placing.slots_fit;
        })

    pub outline_done : {prev' next' : List ℕ} → LinkedRows prev next rowSlot' o prev' next'
        → OutlinePlaced slot_row slot_cell prev next row_slot o place slotRow' slotCell' prev' next' rowSlot' vacant'
    outline_done L =
        let s : slots_at rowSlot' o ≡ slots_in slot_row o = rw P.slots slots_given in
        record {
          rows = P.rows;
          cells = P.cells;
          prevs = rw s at L.prevs;
          nexts = rw s at L.nexts;
          slots = P.slots;
          flags = P.flags;
        }

-- ---- the cell takes its place

module _ {head cells parent rank : List ℕ} (A : HoldAsks head cells parent rank) {place : ℕ} (e : place ≡ at head 1) where
  pub add_asks : AddAsks parent rank place
  add_asks =
      let r = A.room in
      let n = A.even in
      let f = A.fits in
      record { forest = rw e A.forest; room = omega arith; fits = omega arith }

  pub cell_held : (x : ℕ) {head' cells' parent' rank' : List ℕ} → head' ≡ set head 1 (place + 1) → cells' ≡ set cells place x → Added parent rank place parent' rank'
      → CellHeld head cells parent rank x place head' cells' parent' rank'
  cell_held x h c D = record {
    place_is = e;
    head_left = h ∙ rw e;
    cells_left = c ∙ rw e;
    parent_left = D.parents ∙ rw e;
    rank_left = D.ranks ∙ rw e;
  }
