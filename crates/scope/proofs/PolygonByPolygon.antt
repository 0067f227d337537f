-- THE RING LIST GOES POLYGON BY POLYGON, a polygon's outer first. So it is of whatever state is read.
--     ordered_together     between two rings of one group stand rings of that group alone
--     begins_polygon        the test by which a reader of the ring list tells a polygon's first ring: its group is not that of the ring before it
--     begins_outer         that ring is its polygon's outer, and no other ring is
--     begins_count         as many rings begin a polygon as there are polygons
-- Assumes nothing.
use Prim.Native.Nat.{ℕ, ◌-◌, ◌≤◌, ◌<◌}
use mathlib.Core.Path.{◌≡◌, refl, sym, ◌∙◌, ap, subst}
use mathlib.Core.Logic.{◌⊎◌, inl, inr, ⊎_elim, ◌≢◌}
use mathlib.Core.Bool.{Bool, true, false, ◌||◌, not}
use mathlib.Core.List.{List, map, Memᴰ}
use native.Mathlib.Omega.{arith}
use borrow.Author.Tests.{eq-eqb, ne_eqb, eqb-true}
use lib.Dec.{eqb}
use lib.ListN.{length}
use Rattle.scope.specs.Lists.{at, below, keep}
use Rattle.scope.specs.Memory.{Output}
use Rattle.scope.specs.Order.{View, by, descending, sort_by, area_at, group_at, lowest_rows, within_polygon, outer_at, polygon_order, ring_order, ordered, polygon_count}
use Rattle.scope.specs.Area.{area_le}
use Rattle.scope.specs.Calls.{written}
use Rattle.scope.proofs.Tests.{clash, same, le_or_lt}
use Rattle.scope.proofs.Members.{Fresh, cases, mem_at, place, fresh_at, below_fresh}
use Rattle.scope.proofs.Below.{below_same, keep_below, map_at, map_length}
use Rattle.scope.proofs.Over.{over_at}
use Rattle.scope.proofs.Orders.{Decides, decides_then_by, decides_leb, order_refl, then_parts, then_holds}
use Rattle.scope.proofs.Sorted.{sort_perm, sort_ascends}
use Rattle.scope.proofs.Perms.{perm_sym, perm_in, perm_fresh, perm_keep}
use Rattle.scope.proofs.Ascending.{ascends_at, first_least}
use Rattle.scope.proofs.RingOrder.{order_within, order_polygons, order_rings, decides_rings, ordered_all, ordered_ascends}
use Rattle.scope.proofs.Polygons.{keep_mem, outer_ring, outer_same}

module _ (v : View) where
  abbrev l : List ℕ
  l = ordered v

  abbrev last : ℕ
  last = length (ordered v)

  decides_polygons : Decides (polygon_order v)
  decides_polygons = decides_then_by (by (area_at v) (descending area_le)) decides_leb

  ring_at : (i : ℕ) → i < last → Memᴰ (at l i) (lowest_rows v)
  ring_at i h = perm_in (perm_sym (ordered_all v)) (mem_at l i h)

  before : (i j : ℕ) → i < j → j < last → ring_order v (at l i) (at l j) ≡ true
  before = ascends_at (order_rings v) l (ordered_ascends v)

  -- the outers of two rings in order are in order
  by_outers : (q r : ℕ) → ring_order v q r ≡ true → polygon_order v (outer_at v q) (outer_at v r) ≡ true
  by_outers q r e = (then_parts (polygon_order v (outer_at v q) (outer_at v r)) (polygon_order v (outer_at v r) (outer_at v q)) (within_polygon v q r) e).0

  -- RINGS OF ONE GROUP ARE NEIGHBOURS
  pub ordered_together : (i j k : ℕ) → i < j → j < k → k < length (ordered v) → group_at v (at (ordered v) i) ≡ group_at v (at (ordered v) k)
      → group_at v (at (ordered v) j) ≡ group_at v (at (ordered v) i)
  ordered_together i j k p q h e =
      let x = at l i in
      let y = at l j in
      let z = at l k in
      let ahead = by_outers x y (before i j p (omega arith)) in
      let behind = by_outers y z (before j k q h) in
      let one : outer_at v x ≡ outer_at v z = outer_same v x z (ring_at i (omega arith)) e in
      let d : outer_at v x ≡ outer_at v y = decides_polygons (outer_at v x) (outer_at v y) ahead (subst (λ (o : ℕ). polygon_order v (outer_at v y) o ≡ true) (sym one) behind) in
      sym (outer_ring v y (ring_at j (omega arith))).1 ∙ ap (group_at v) (sym d) ∙ (outer_ring v x (ring_at i (omega arith))).1

  -- ---- outers

  -- the outer of a ring may stand before every ring of its group
  outer_least : (r q : ℕ) → Memᴰ q (lowest_rows v) → group_at v q ≡ group_at v r → within_polygon v (outer_at v r) q ≡ true
  unfolding outer_at
  outer_least r q i e =
      let group = keep (λ p. eqb (group_at v p) (group_at v r)) (lowest_rows v) in
      let inside = keep_mem (λ p. eqb (group_at v p) (group_at v r)) (lowest_rows v) i (eq-eqb (group_at v q) (group_at v r) e) in
      first_least (order_within v) r q (sort_by (within_polygon v) group) (sort_ascends (within_polygon v) (order_within v) group)
      (perm_in (sort_perm (within_polygon v) group) inside)

  -- of two rings with one outer the order within the polygon decides
  within_before : (q r : ℕ) → outer_at v q ≡ outer_at v r → within_polygon v q r ≡ true → ring_order v q r ≡ true
  within_before q r e w = then_holds (polygon_order v (outer_at v q) (outer_at v r)) (polygon_order v (outer_at v r) (outer_at v q)) (within_polygon v q r)
      (ap (λ (o : ℕ). polygon_order v o (outer_at v r)) e ∙ order_refl (order_polygons v) (outer_at v r)) (λ _. w)

  fresh : Fresh (ordered v)
  fresh = perm_fresh (ordered_all v) (below_fresh _ _)

  -- a ring that is no outer has a ring of its group before it
  inner_after : (i : ℕ) → i < last → outer_at v (at l i) ≢ at l i → (0 < i) × (group_at v (at l i) ≡ group_at v (at l (i - 1)))
  inner_after i h n = go (place (perm_in (ordered_all v) outer.0))
    where
      r : ℕ
      r = at l i

      outer : Memᴰ (outer_at v r) (lowest_rows v) × (group_at v (outer_at v r) ≡ group_at v r)
      outer = outer_ring v r (ring_at i h)

      first : ring_order v (outer_at v r) r ≡ true
      first = within_before (outer_at v r) r (outer_same v (outer_at v r) r outer.0 outer.1) (outer_least r r (ring_at i h) refl)

      go : (j : ℕ) × (j < last) × (at l j ≡ outer_at v r) → (0 < i) × (group_at v (at l i) ≡ group_at v (at l (i - 1)))
      go (j, k, e) = cases j i
          (λ q. absurd (n (sym e ∙ ap (at l) q)))
          (λ d. ⊎_elim
          (λ (a : i < j). absurd (n (decides_rings v (outer_at v r) r first (subst (λ (o : ℕ). ring_order v r o ≡ true) e (before i j a k)))))
          (λ (a : j < i). (omega arith, near a))
          (either_way d))
        where
          either_way : j ≢ i → (i < j) ⊎ (j < i)
          either_way d = ⊎_elim (λ (a : i ≤ j). inl (omega arith)) (λ (a : j < i). inr a) (le_or_lt i j)

          together : group_at v (at l j) ≡ group_at v (at l i)
          together = ap (group_at v) e ∙ outer.1

          near : j < i → group_at v (at l i) ≡ group_at v (at l (i - 1))
          near a = cases j (i - 1)
              (λ q. sym together ∙ ap (λ (k : ℕ). group_at v (at l k)) q)
              (λ d. sym together ∙ sym (ordered_together j (i - 1) i (omega arith) (omega arith) h together))

  -- and before an outer there is none
  outer_first : (i : ℕ) → i < last → 0 < i → group_at v (at l i) ≡ group_at v (at l (i - 1)) → outer_at v (at l i) ≢ at l i
  outer_first i h some e o =
      let r = at l i in
      let q = at l (i - 1) in
      let inside = ring_at (i - 1) (omega arith) in
      let ahead = before (i - 1) i (omega arith) h in
      let least : within_polygon v r q ≡ true = subst (λ (x : ℕ). within_polygon v x q ≡ true) o (outer_least r q inside (sym e)) in
      let one = outer_same v q r inside (sym e) in
      let d : q ≡ r = decides_rings v q r ahead (within_before r q (sym one) least) in
      let z : i - 1 ≡ i = fresh_at l fresh (i - 1) i (omega arith) h d in
      omega arith

-- ---- by the ring list alone

-- ring i of a list of groups begins a polygon: it is the first, or its group is not that of the ring before it
abbrev pub begins_polygon : List ℕ → ℕ → Bool
begins_polygon group i = eqb i 0 || not (eqb (at group i) (at group (i - 1)))

begins_not : (g : List ℕ) (i : ℕ) → 0 < i → at g i ≡ at g (i - 1) → begins_polygon g i ≡ false
begins_not g i h e = let n : i ≢ 0 = λ z. omega arith in rw (ne_eqb i 0 n, eq-eqb (at g i) (at g (i - 1)) e)

module _ (v : View) (o : Output) where
  group_at_lem : (i : ℕ) → i < length (ordered v) → at (written v o).group i ≡ group_at v (at (ordered v) i)
  unfolding written
  group_at_lem i h =
      let n = map_length (group_at v) (ordered v) in
      over_at (map (group_at v) (ordered v)) o.group i 0 (omega arith) ∙ map_at 0 (group_at v) (ordered v) i h

  -- THE FIRST RING OF A POLYGON IS ITS OUTER, and no other is
  pub begins_outer : (i : ℕ) → i < length (ordered v) → begins_polygon (written v o).group i ≡ eqb (outer_at v (at (ordered v) i)) (at (ordered v) i)
  begins_outer i h = same (begins_polygon g i) (eqb (outer_at v r) r)
      (λ e. cases (outer_at v r) r (eq-eqb (outer_at v r) r) (λ n.
      let z = inner_after v i h n in
      let k : i - 1 < length (ordered v) = omega arith in
      absurd (clash e (begins_not g i z.0 (group_at_lem i h ∙ z.1 ∙ sym (group_at_lem (i - 1) k))))))
      (λ e. cases i 0 (λ z. rw (eq-eqb i 0 z)) (λ z.
      let k : i - 1 < length (ordered v) = omega arith in
      let differs : at g i ≢ at g (i - 1) = λ q. outer_first v i h (omega arith) (sym (group_at_lem i h) ∙ q ∙ group_at_lem (i - 1) k) (eqb-true (outer_at v r) r e) in
      rw (ne_eqb i 0 z, ne_eqb (at g i) (at g (i - 1)) differs)))
    where
      g : List ℕ
      g = (written v o).group

      r : ℕ
      r = at (ordered v) i

  -- AS MANY AS THERE ARE POLYGONS
  pub begins_count : length (below (begins_polygon (written v o).group) (length (ordered v))) ≡ polygon_count v
  unfolding polygon_count
  begins_count =
      let outer : ℕ → Bool = λ r. eqb (outer_at v r) r in
      let places = below (λ i. outer (at (ordered v) i)) (length (ordered v)) in
      ap length (below_same (begins_polygon (written v o).group) (λ i. outer (at (ordered v) i)) (length (ordered v)) begins_outer)
      ∙ sym (ap length (keep_below outer (ordered v)) ∙ map_length (at (ordered v)) places)
      ∙ sym (perm_keep outer (ordered_all v))
