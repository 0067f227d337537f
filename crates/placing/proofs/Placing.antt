-- The loop of `place_rows` over plain lists: what it has done, a turn, and the end.
--     Placing                the loop's invariant: what is left to store is stored by the definition's remaining stores
--     placing_start, placing_slot, placing_turn, placing_end
-- Assumes nothing.
use mathlib.Core.Path.{◌≡◌, refl, sym, ap, ◌∙◌}
use mathlib.Core.Logic.{◌≢◌}
use mathlib.Core.Bool.{not}
use mathlib.Core.List.{List, [], ◌∷◌, map}
use Prim.Native.Nat.{ℕ, zero, suc, ◌+◌, ◌-◌, ◌≤◌, ◌<◌, ◌^◌}
use native.Mathlib.Numerals.{add-one}
use native.Mathlib.Omega.{arith}
use lib.ListN.{length, set, take, drop, replicate, length-set, length-take, length-drop, drop_of_length-le, length-map, length-replicate, get_or-replicate}
use lib.Seq.{length-take-le, drop-cons, get_or-set_same, get_or-set_other}
use Rattle.scope.specs.Lists.{at, put_all}
use Rattle.scope.proofs.Stores.{put_all_step, passing, below_passing, passing_next}
use Rattle.scope.proofs.Members.{cases}
use Rattle.free_slots.proofs.Searching.{from_same}
use Rattle.free_slots.proofs.Flagged.{below_used}
use Rattle.free_slots.specs.Search.{used_in, free_from, Flags, SearchAsks, Searched}
use Rattle.placing.specs.Place.{free_in, slots_in, PlaceAsks, PlacedRows}

-- ---- the loop

-- a store that is the next of stores in a row
pub store_next : (ks vs l : List ℕ) (i : ℕ) {all : List ℕ} {k v : ℕ} → i < length ks → i < length vs → k ≡ at ks i → v ≡ at vs i
    → put_all (drop i ks) (drop i vs) l ≡ all → put_all (drop (suc i) ks) (drop (suc i) vs) (set l k v) ≡ all
store_next ks vs l i h g ek ev e = rw (ek, ev) (sym (put_all_step ks vs l i h g) ∙ e)

-- a value of a list that is made of another
pub map_at : (l : List ℕ) (i : ℕ) → i < length l → at (map suc l) i ≡ suc (at l i)
map_at [] i h = absurd (omega arith)
map_at (x ∷ l) zero h = refl
map_at (x ∷ l) (suc i) h = map_at l i (omega arith)

-- a slot that a row is stored in is used, the others as they were
used_set : (rows : List ℕ) (s k v : ℕ) → s < length rows → (k ≢ s → at rows k ≢ 0) → at (set rows s (v + 1)) k ≢ 0
used_set rows s k v h u z = cases k s
    (λ e. let r : at (set rows s (v + 1)) k ≡ v + 1 = ap (at (set rows s (v + 1))) e ∙ get_or-set_same rows s (v + 1) 0 h in omega arith)
    (λ d. u d (sym (get_or-set_other rows s k (v + 1) 0 d) ∙ z))

pub record Placing (slot_row slot_cell row_slot vacant o : List ℕ) (n i start : ℕ) (slotRow' slotCell' rowSlot' vacant' : List ℕ) : Type 0 where
  pub within : i ≤ length o
  pub cursor : start ≤ length slot_row
  -- the free slots from the cursor on are those that the edges left will take
  pub left : take (length o - i) (passing (λ s. not (used_in slot_row s)) start (length slot_row - start)) ≡ drop i (slots_in slot_row o)
  pub same : (s : ℕ) → start ≤ s → at slotRow' s ≡ at slot_row s
  -- no slot below it is free
  pub packed : (s : ℕ) → s < start → at slotRow' s ≢ 0
  pub flags : Flags vacant' slotRow'
  pub rows : put_all (drop i (slots_in slot_row o)) (drop i (map suc o)) slotRow' ≡ put_all (slots_in slot_row o) (map suc o) slot_row
  pub cells : put_all (drop i (slots_in slot_row o)) (drop i (replicate (length o) n)) slotCell' ≡ put_all (slots_in slot_row o) (replicate (length o) n) slot_cell
  pub slots : put_all (drop i o) (drop i (map suc (slots_in slot_row o))) rowSlot' ≡ put_all o (map suc (slots_in slot_row o)) row_slot
  pub long_rows : length slotRow' ≡ length slot_row
  pub long_cells : length slotCell' ≡ length slot_cell
  pub long_slots : length rowSlot' ≡ length row_slot
  pub long_vacant : length vacant' ≡ length vacant

module _ {slot_row slot_cell row_slot vacant o : List ℕ} {n : ℕ} (A : PlaceAsks slot_row slot_cell row_slot vacant o n) where
  pub slots_many : length (slots_in slot_row o) ≡ length o
  slots_many = length-take-le (length o) (free_in slot_row) A.enough

  pub placing_start : Placing slot_row slot_cell row_slot vacant o n 0 0 slot_row slot_cell row_slot vacant
  placing_start = record {
    within = omega arith;
    cursor = omega arith;
    left = rw (let e : length o - 0 ≡ length o = omega arith in e, let e : length slot_row - 0 ≡ length slot_row = omega arith in e)
        (ap (take (length o)) (sym (below_passing (λ s. not (used_in slot_row s)) (length slot_row))));
    same = λ s h. refl;
    packed = λ s h. absurd (omega arith);
    flags = A.flags;
    rows = refl;
    cells = refl;
    slots = refl;
    long_rows = refl;
    long_cells = refl;
    long_slots = refl;
    long_vacant = refl;
  }

  module _ {i start : ℕ} {slotRow' slotCell' rowSlot' vacant' : List ℕ} (P : Placing slot_row slot_cell row_slot vacant o n i start slotRow' slotCell' rowSlot' vacant') where
    pub placing_end : length o ≤ i → PlacedRows slot_row slot_cell row_slot o n slotRow' slotCell' rowSlot' vacant'
    unfolding put_all
    placing_end h =
        let none : drop i (slots_in slot_row o) ≡ [] =
        let l : length (slots_in slot_row o) ≤ i = omega (arith, slots_many) in drop_of_length-le (slots_in slot_row o) l in
        let done : drop i o ≡ [] = drop_of_length-le o h in
        record {
          rows = rw none at P.rows;
          cells = rw none at P.cells;
          slots = rw done at P.slots;
          flags = P.flags;
        }

    -- the slot that the search answers is the next edge's
    record Slot (s : ℕ) : Type 0 where
      low : s < length slot_row
      high : start ≤ s
      is : s ≡ at (slots_in slot_row o) i
      later : take (length o - suc i) (passing (λ s. not (used_in slot_row s)) (suc s) (length slot_row - suc s)) ≡ drop (suc i) (slots_in slot_row o)

    module _ (h : i < length o) where
      some : 0 < length (passing (λ s. not (used_in slot_row s)) start (length slot_row - start))
      some =
          let a = ap length P.left ∙ length-drop i (slots_in slot_row o) in
          let b = length-take (length o - i) (passing (λ s. not (used_in slot_row s)) start (length slot_row - start)) in
          omega (arith, a, b, slots_many)

      placing_slot : {s : ℕ} → s ≡ free_from slotRow' start → Slot s
      placing_slot {s} e =
          let f : s ≡ free_from slot_row start = e ∙ rw P.long_rows (from_same (used_in slotRow') (used_in slot_row) (length slot_row - start) start (λ k l. rw (P.same k l))) in
          let r = passing_next (used_in slot_row) (length slot_row - start) start some in
          let c = P.cursor in
          let all : start + (length slot_row - start) ≡ length slot_row = omega arith in
          let one : length o - i ≡ suc (length o - suc i) = omega arith in
          let q = rw (r.2, one, drop-cons (slots_in slot_row o) i 0 (rw slots_many h), all, ← f) at P.left in
          record {
            low = omega (arith, r.0);
            high = omega (arith, r.1);
            is = cc;
            later = cc;
          }

      pub search_asks : SearchAsks slotRow' vacant' start
      search_asks =
          let s = (placing_slot refl).low in
          let e = P.long_rows in
          let c = P.cursor in
          let f = A.slots_fit in
          record { cursor = omega arith; some = omega arith; packed = P.packed; flags = P.flags; fits = omega arith }

      -- the three stores are in range, and what they store fits
      pub record Fits (s row : ℕ) : Type 0 where
        pub in_row : s < length slotRow'
        pub in_cell : s < length slotCell'
        pub in_slot : row < length rowSlot'
        pub row_fits : row + 1 < 2 ^ 32
        pub slot_fits : s + 1 < 2 ^ 32
        pub cell_fits : n < 2 ^ 32

      pub placing_fits : {s row : ℕ} → s ≡ free_from slotRow' start → row ≡ at o i → Fits s row
      placing_fits f e =
          let low = (placing_slot f).low in
          let r = A.in_table i h in
          let a = A.slots_fit in
          let b = A.rows_fit in
          let c = A.even in
          let d = P.long_rows in
          let q = P.long_cells in
          let g = P.long_slots in
          record { in_row = omega arith; in_cell = omega arith; in_slot = omega arith; row_fits = omega arith; slot_fits = omega arith; cell_fits = A.cells_fit }

      -- A TURN: the three stores
      pub placing_turn : {s row : ℕ} {vacant'' : List ℕ} → Searched slotRow' start s vacant'' → length vacant'' ≡ length vacant' → row ≡ at o i → {slotRow'' slotCell'' rowSlot'' : List ℕ}
          → slotRow'' ≡ set slotRow' s (row + 1) → slotCell'' ≡ set slotCell' s n → rowSlot'' ≡ set rowSlot' row (s + 1)
          → Placing slot_row slot_cell row_slot vacant o n (i + 1) (s + 1) slotRow'' slotCell'' rowSlot'' vacant''
      placing_turn {s} F long e er ec es =
          let S = placing_slot F.found in
          let is = S.is in
          let in_pool : s < length slotRow' = omega (arith, S.low, P.long_rows) in
          rw (er, ec, es, e, add-one i, add-one s) (record {
            within = omega arith;
            cursor = S.low;
            left = S.later;
            same = λ k l. get_or-set_other slotRow' s k (at o i + 1) 0 (λ e. omega arith) ∙ P.same k (omega (arith, S.high));
            packed = λ k g. used_set slotRow' s k (at o i) in_pool (λ d. below_used search_asks k (omega (arith, F.found)));
            flags = F.flags (at o i + 1) (λ z. omega arith);
            rows = store_next (slots_in slot_row o) (map suc o) slotRow' i (rw slots_many h) (rw length-map h) is (add-one (at o i) ∙ sym (map_at o i h)) P.rows;
            cells = store_next (slots_in slot_row o) (replicate (length o) n) slotCell' i (rw slots_many h) (rw length-replicate h) is
                (sym (get_or-replicate (length o) i n 0 h)) P.cells;
            slots = store_next o (map suc (slots_in slot_row o)) rowSlot' i h (rw (length-map, slots_many) h) refl
                (ap suc is ∙ sym (map_at (slots_in slot_row o) i (rw slots_many h))) P.slots;
            long_rows = length-set slotRow' s (at o i + 1) ∙ P.long_rows;
            long_cells = length-set slotCell' s n ∙ P.long_cells;
            long_slots = length-set rowSlot' (at o i) (suc s) ∙ P.long_slots;
            long_vacant = long ∙ P.long_vacant;
          })
