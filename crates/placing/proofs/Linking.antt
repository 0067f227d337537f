-- The loop of `link_rows` over plain lists: what it has done, a turn, and the end.
--     slots_at_lem                       a slot of the list of slots
--     Linking                        the loop's invariant: what is left to store is stored by the definition's remaining stores
--     linking_start, linking_turn, linking_end
-- Assumes nothing.
use mathlib.Core.Path.{◌≡◌, refl, sym, ap, ◌∙◌}
use mathlib.Core.List.{List, [], ◌∷◌}
use Prim.Native.Nat.{ℕ, zero, suc, ◌+◌, ◌-◌, ◌≤◌, ◌<◌, ◌^◌}
use native.Mathlib.Numerals.{add-one}
use native.Mathlib.Omega.{arith}
use lib.ListN.{length, set, drop, length-set, drop_of_length-le, length-map}
use Rattle.scope.specs.Lists.{at, rotate, put_all}
use Rattle.scope.proofs.Outlines.{onward, onward_lt}
use Rattle.scope.proofs.Puts.{rotate_length, rotate_at}
use Rattle.placing.specs.Place.{slots_at, SlotAsks, LinkAsks, LinkedRows}
use Rattle.placing.proofs.Placing.{store_next}

pub slots_at_lem : (row_slot o : List ℕ) (i : ℕ) → i < length o → at (slots_at row_slot o) i ≡ at row_slot (at o i) - 1
slots_at_lem row_slot [] i h = absurd (omega arith)
slots_at_lem row_slot (x ∷ o) zero h = refl
slots_at_lem row_slot (x ∷ o) (suc i) h = slots_at_lem row_slot o i (omega arith)

pub record Linking (prev next row_slot o : List ℕ) (i : ℕ) (prev' next' : List ℕ) : Type 0 where
  pub within : i ≤ length o
  pub nexts : put_all (drop i (slots_at row_slot o)) (drop i (rotate (slots_at row_slot o))) next' ≡ put_all (slots_at row_slot o) (rotate (slots_at row_slot o)) next
  pub prevs : put_all (drop i (rotate (slots_at row_slot o))) (drop i (slots_at row_slot o)) prev' ≡ put_all (rotate (slots_at row_slot o)) (slots_at row_slot o) prev
  pub long_next : length next' ≡ length next
  pub long_prev : length prev' ≡ length prev

pub linking_start : (prev next row_slot o : List ℕ) → Linking prev next row_slot o 0 prev next
linking_start prev next row_slot o = record { within = omega arith; nexts = refl; prevs = refl; long_next = refl; long_prev = refl }

module _ {prev next row_slot o : List ℕ} (A : LinkAsks prev next row_slot o) where
  many : length (slots_at row_slot o) ≡ length o
  many = length-map o (λ r. at row_slot r - 1)

  pub slot_asks : (i : ℕ) → i < length o → SlotAsks row_slot o i
  slot_asks i h = record { within = h; in_table = A.in_table i h; has_slot = A.have_slots i h }

  slot_low : (i : ℕ) → i < length o → at (slots_at row_slot o) i < length next
  slot_low i h = omega (arith, slots_at_lem row_slot o i h, A.have_slots i h, A.in_pool i h)

  module _ {i : ℕ} {prev' next' : List ℕ} (L : Linking prev next row_slot o i prev' next') where
    pub linking_end : length o ≤ i → LinkedRows prev next row_slot o prev' next'
    unfolding put_all
    linking_end h =
        let l : length (slots_at row_slot o) ≤ i = omega (arith, many) in
        let k : length (rotate (slots_at row_slot o)) ≤ i = omega (arith, many, rotate_length (slots_at row_slot o)) in
        record {
          nexts = rw (drop_of_length-le (slots_at row_slot o) l) at L.nexts;
          prevs = rw (drop_of_length-le (rotate (slots_at row_slot o)) k) at L.prevs;
        }

    module _ (h : i < length o) where
      turned : at (rotate (slots_at row_slot o)) i ≡ at (slots_at row_slot o) (onward (length o) i)
      turned = rotate_at (slots_at row_slot o) i (rw many h) ∙ rw many

      -- the two stores are in range, and what they store fits
      pub record Fits (s t : ℕ) : Type 0 where
        pub in_next : s < length next'
        pub in_prev : t < length prev'
        pub next_fits : t < 2 ^ 32
        pub prev_fits : s < 2 ^ 32

      pub linking_fits : {s j t : ℕ} → s ≡ at (slots_at row_slot o) i → j ≡ onward (length o) i → t ≡ at (slots_at row_slot o) j → Fits s t
      linking_fits {s} {j} {t} es ej et =
          let slot : s < length next = rw es (slot_low i h) in
          let after : t < length next = rw (et, ej) (slot_low (onward (length o) i) (onward_lt (length o) i h)) in
          let even = A.even in
          let fits = A.fits in
          let l = L.long_next in
          let m = L.long_prev in
          record { in_next = omega arith; in_prev = omega arith; next_fits = omega arith; prev_fits = omega arith }

      -- A TURN: the two stores
      pub linking_turn : {s j t : ℕ} → s ≡ at (slots_at row_slot o) i → j ≡ onward (length o) i → t ≡ at (slots_at row_slot o) j
          → {prev'' next'' : List ℕ} → next'' ≡ set next' s t → prev'' ≡ set prev' t s → Linking prev next row_slot o (i + 1) prev'' next''
      linking_turn {s} {j} {t} es ej et en ep =
          let on : t ≡ at (rotate (slots_at row_slot o)) i = et ∙ ap (at (slots_at row_slot o)) ej ∙ sym turned in
          let m = many in
          let k = rotate_length (slots_at row_slot o) in
          rw (en, ep, add-one i) (record {
            within = omega arith;
            nexts = store_next (slots_at row_slot o) (rotate (slots_at row_slot o)) next' i (omega arith) (omega arith) es on L.nexts;
            prevs = store_next (rotate (slots_at row_slot o)) (slots_at row_slot o) prev' i (omega arith) (omega arith) on es L.prevs;
            long_next = length-set next' s t ∙ L.long_next;
            long_prev = length-set prev' t s ∙ L.long_prev;
          })
