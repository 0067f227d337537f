-- The order of rings by number is document 01's order of their lowest rows.
--     Numbered         lists that hold, for each of n rings by number, its row, its area and its group
--     order_is         the rings in order, by their rows
--     polygons_are     as many polygons
-- Assumes nothing.
use Prim.Native.Nat.{ℕ, ◌<◌}
use mathlib.Core.Path.{◌≡◌, refl, sym, ◌∙◌, ap, ap₂}
use mathlib.Core.Bool.{Bool, true, false, cond}
use mathlib.Core.Logic.{⊎_elim, ◌≢◌}
use mathlib.Core.List.{List, [], ◌∷◌, map}
use native.Mathlib.Omega.{arith}
use borrow.Author.Tests.{leb-true, leb-false, le-leb, lt-leb, eq-eqb, ne_eqb}
use lib.Dec.{leb, eqb}
use lib.Ieee.{Float}
use lib.ListN.{length}
use Rattle.scope.specs.Lists.{at, below, keep, head_or}
use Rattle.scope.specs.Area.{area_le}
use Rattle.scope.specs.Order.{by, sort_by, View, stands_at, next_row, lowest_rows, area_at, group_at, within_polygon, outer_at, polygon_order, ring_order, ordered, polygon_count}
use Rattle.scope.specs.Afresh.{starts_ring}
use Rattle.scope.proofs.Tests.{either}
use Rattle.scope.proofs.Members.{cases}
use Rattle.scope.proofs.Below.{below_passes, below_rises, below_same, keep_below, tabulate_at, tabulate_length, map_numbers, map_length}
use Rattle.scope.proofs.Sorting.{All, all_places, all_sort, sort_map, sort_cong}
use Rattle.ring_sort.specs.Keys.{numbers, ring_le}
use Rattle.area_order.specs.Keys.{area_in, within_le, polygon_le}
use Rattle.ring_order.specs.Polygons.{outer_of, outers_of, order_of, polygons_of}

pub record Numbered (v : View) (rows : List ℕ) (area : List Float) (group : List ℕ) (n : ℕ) : Type 0 where
  pub count : n ≡ length (lowest_rows v)
  pub rows_are : (i : ℕ) → i < n → at rows i ≡ at (lowest_rows v) i
  pub areas_are : (i : ℕ) → i < n → area_in area i ≡ area_at v (at (lowest_rows v) i)
  pub groups_are : (i : ℕ) → i < n → at group i ≡ group_at v (at (lowest_rows v) i)

-- ---- lists of numbers below n

all_low : (n : ℕ) → All (λ x. x < n) (numbers n)
all_low n = all_places (λ x. x < n) (numbers n) (λ i h. let l = tabulate_length (λ j. j) 0 n in let e = tabulate_at (λ j. j) n i (omega arith) in omega arith)

below_low : (ok : ℕ → Bool) (n : ℕ) → All (λ x. x < n) (below ok n)
below_low ok n = all_places (λ x. x < n) (below ok n) (λ i h. (below_passes ok n i h).0)

head_low : (n d : ℕ) (l : List ℕ) → d < n → All (λ x. x < n) l → head_or d l < n
head_low n d [] h a = h
head_low n d (x ∷ l) h a = a.0

head_map : (f : ℕ → ℕ) (d : ℕ) (l : List ℕ) → f (head_or d l) ≡ head_or (f d) (map f l)
head_map f d [] = refl
head_map f d (x ∷ l) = refl

map_agree : (P : ℕ → Type 0) (f g : ℕ → ℕ) → ((x : ℕ) → P x → f x ≡ g x) → (l : List ℕ) → All P l → map f l ≡ map g l
map_agree P f g e [] a = refl
map_agree P f g e (x ∷ l) a = ap₂ (λ (y : ℕ) (k : List ℕ). y ∷ k) (e x a.0) (map_agree P f g e l a.1)

-- two tests in a row, from their parts
then_same : {p p' q q' r r' : Bool} → p ≡ p' → q ≡ q' → r ≡ r' → cond p (cond q r true) false ≡ cond p' (cond q' r' true) false
then_same e f g = ap₂ (λ (a b : Bool). cond a b false) e (ap₂ (λ (a b : Bool). cond a b true) f g)

module _ {v : View} {rows : List ℕ} {area : List Float} {group : List ℕ} {n : ℕ} (N : Numbered v rows area group n) where
  -- the row of a number
  abbrev row : ℕ → ℕ
  row i = at (lowest_rows v) i

  -- numbers stand as their rows
  rises : (i j : ℕ) → i < j → j < n → row i < row j
  rises i j l h =
      below_rises (starts_ring (length v.row_slot) (stands_at v.row_slot) (next_row v.row_slot v.slot_row v.next)) (length v.row_slot) i j l
      (let e = N.count in omega arith)

  same_leb : (i j : ℕ) → i < n → j < n → leb i j ≡ leb (row i) (row j)
  same_leb i j h k = ⊎_elim
      (λ t. t ∙ sym (le-leb (row i) (row j) (cases i j (λ q. rw q (let z = row j in omega arith)) (λ d. let l = leb-true i j t in let z = rises i j (omega arith) k in omega arith))))
      (λ t. t ∙ sym (lt-leb (row i) (row j) (rises j i (leb-false i j t) h)))
      (either (leb i j))

  same_eqb : (i j : ℕ) → i < n → j < n → eqb i j ≡ eqb (row i) (row j)
  same_eqb i j h k = cases i j
      (λ q. eq-eqb i j q ∙ sym (eq-eqb (row i) (row j) (ap row q)))
      (λ d. ne_eqb i j d ∙ sym (ne_eqb (row i) (row j) (λ e. apart d e)))
    where
      apart : i ≢ j → row i ≡ row j → ⊥
      apart d e = let p : i < j → ⊥ = λ l. (let z = rises i j l k in omega arith) in let q : j < i → ⊥ = λ l. (let z = rises j i l h in omega arith) in d (omega arith)

  same_within : (i j : ℕ) → i < n → j < n → within_le area i j ≡ by row (within_polygon v) i j
  same_within i j h k = then_same (ap₂ area_le (N.areas_are i h) (N.areas_are j k)) (ap₂ area_le (N.areas_are j k) (N.areas_are i h)) (same_leb i j h k)

  same_polygon : (i j : ℕ) → i < n → j < n → polygon_le area i j ≡ by row (polygon_order v) i j
  same_polygon i j h k = then_same (ap₂ area_le (N.areas_are j k) (N.areas_are i h)) (ap₂ area_le (N.areas_are i h) (N.areas_are j k)) (same_leb i j h k)

  -- ---- the outer of a ring

  abbrev fellows : ℕ → List ℕ
  fellows i = below (λ j. eqb (at group j) (at group i)) n

  outer_low : (i : ℕ) → i < n → outer_of area group n i < n
  unfolding outer_of
  outer_low i h = head_low n i (sort_by (within_le area) (fellows i)) h (all_sort (λ x. x < n) (within_le area) (fellows i) (below_low (λ j. eqb (at group j) (at group i)) n))

  -- the rings of its group
  fellow_rows : (i : ℕ) → i < n → map row (fellows i) ≡ keep (λ q. eqb (group_at v q) (group_at v (row i))) (lowest_rows v)
  fellow_rows i h =
      ap (map row) (below_same (λ j. eqb (at group j) (at group i)) (λ j. eqb (group_at v (row j)) (group_at v (row i))) n (λ j k. ap₂ eqb (N.groups_are j k) (N.groups_are i h))
      ∙ ap (below (λ j. eqb (group_at v (row j)) (group_at v (row i)))) N.count)
      ∙ sym (keep_below (λ q. eqb (group_at v q) (group_at v (row i))) (lowest_rows v))

  outer_row : (i : ℕ) → i < n → row (outer_of area group n i) ≡ outer_at v (row i)
  unfolding outer_of outer_at
  outer_row i h =
      head_map row i (sort_by (within_le area) (fellows i))
      ∙ ap (head_or (row i)) (ap (map row) (sort_cong (λ x. x < n) (within_le area) (by row (within_polygon v)) same_within (fellows i) (below_low (λ j. eqb (at group j) (at group i)) n))
      ∙ sort_map row (within_polygon v) (fellows i) ∙ ap (sort_by (within_polygon v)) (fellow_rows i h))

  -- ---- the order

  outers_at : (i : ℕ) → i < n → at (outers_of area group n) i ≡ outer_of area group n i
  outers_at i h = tabulate_at (outer_of area group n) n i h

  same_polygons : (i j : ℕ) → i < n → j < n → by (at (outers_of area group n)) (polygon_le area) i j ≡ by row (by (outer_at v) (polygon_order v)) i j
  same_polygons i j h k =
      ap₂ (polygon_le area) (outers_at i h) (outers_at j k)
      ∙ same_polygon (outer_of area group n i) (outer_of area group n j) (outer_low i h) (outer_low j k)
      ∙ ap₂ (polygon_order v) (outer_row i h) (outer_row j k)

  same_rings : (i j : ℕ) → i < n → j < n → ring_le area (outers_of area group n) i j ≡ by row (ring_order v) i j
  same_rings i j h k = then_same (same_polygons i j h k) (same_polygons j i k h) (same_within i j h k)

  order_low : All (λ x. x < n) (order_of area group n)
  unfolding order_of
  order_low = all_sort (λ x. x < n) (ring_le area (outers_of area group n)) (numbers n) (all_low n)

  pub order_numbers : map row (order_of area group n) ≡ ordered v
  unfolding order_of ordered
  order_numbers =
      ap (map row) (sort_cong (λ x. x < n) (ring_le area (outers_of area group n)) (by row (ring_order v)) same_rings (numbers n) (all_low n))
      ∙ sort_map row (ring_order v) (numbers n)
      ∙ ap (sort_by (ring_order v)) (ap (λ (z : ℕ). map row (numbers z)) N.count ∙ map_numbers (lowest_rows v))

  pub order_is : map (at rows) (order_of area group n) ≡ ordered v
  order_is = map_agree (λ x. x < n) (at rows) row N.rows_are (order_of area group n) order_low ∙ order_numbers

  pub order_all_low : All (λ x. x < n) (order_of area group n)
  order_all_low = order_low

  pub polygons_are : polygons_of area group n ≡ polygon_count v
  unfolding polygons_of polygon_count
  polygons_are =
      ap length (below_same (λ i. eqb (outer_of area group n i) i) (λ i. eqb (outer_at v (row i)) (row i)) n
      (λ i h. same_eqb (outer_of area group n i) i (outer_low i h) h ∙ ap (λ (z : ℕ). eqb z (row i)) (outer_row i h))
      ∙ ap (below (λ i. eqb (outer_at v (row i)) (row i))) N.count)
      ∙ sym (ap length (keep_below (λ r. eqb (outer_at v r) r) (lowest_rows v)) ∙ map_length row (below (λ i. eqb (outer_at v (row i)) (row i)) (length (lowest_rows v))))
