-- A SHOWN STATE, DRAWN: what read out finds in a state that shows its cells is what is drawn afresh from them (Drawn).
--     shown_drawn       the rings, in the order of the ring list
--     shown_written     what is written: start, length, group and area of each, and the edge list
--     shown_answer      what is answered
-- Assumes nothing.
use Prim.Native.Nat.{ℕ, ◌+◌}
use mathlib.Core.Path.{◌≡◌, refl, sym, ◌∙◌, ap}
use mathlib.Core.Bool.{Bool, true, false, cond}
use mathlib.Core.List.{List, [], ◌∷◌, ◌++◌, map, map-map}
use lib.Dec.{eqb}
use lib.ListN.{length}
use Rattle.scope.specs.Answers.{Answer}
use Rattle.std.specs.Prelude.{Ok}
use Rattle.scope.specs.declared.ReadOut.TheVariants.{Nothing, Closed, Outline}
use Rattle.scope.specs.Lists.{keep, head_or}
use Rattle.scope.specs.Table.{Table}
use Rattle.scope.specs.Afresh.{standing_rows, ring, rings}
use Rattle.scope.specs.Memory.{Memory, Output, held, has_slot}
use Rattle.scope.specs.Order.{View, view, sort_by, ring_at, area_at, group_at, lowest_rows, within_polygon, outer_at, ring_order, ordered, starts, sizes, edge_rows, polygon_count, read_answer}
use Rattle.scope.specs.Calls.{over, written}
use Rattle.scope.proofs.Tests.{clash}
use Rattle.scope.proofs.Sorting.{All, all_sort, sort_cong, sort_length}
use Rattle.scope.proofs.Agree as afresh
use Rattle.scope.proofs.Cancelling.{row_after}
use Rattle.scope.proofs.TakingCells.{Shown}
use Rattle.scope.proofs.TakingShows.{shown_count}
use Rattle.scope.proofs.ViewsAlike.{all_keep, all_head, keep_cong, map_cong}
use Rattle.scope.proofs.ShownAfresh.{shown_ring, shown_starts, starts_have}
use Rattle.scope.proofs.Counts.{ring_group, polygons, group_is, shown_polygons, shown_ring_count}
use Rattle.scope.proofs.Drawn.{ring_area, ring_from, area_from, group_from, by_area, outer_from, drawn_before, drawn, drawn_rings, starts_from, laid, drawn_output, drawn_answer}
use Rattle.scope.proofs.DrawnRows.{no_ring}

module _ {t : Table} {m : Memory} {cs : List ℕ} (S : Shown t m cs) where
  abbrev v : View
  v = view t m

  abbrev Stands : ℕ → Type 0
  Stands r = has_slot m r ≡ true

  -- ---- ring by ring

  ring_drawn : (r : ℕ) → Stands r → ring_at (view t m) r ≡ ring_from t cs r
  ring_drawn r e = ap (λ (n : ℕ). ring n (row_after m) r) S.sound.lengths.row_slot ∙ shown_ring S r e

  area_drawn : (r : ℕ) → Stands r → area_at (view t m) r ≡ area_from t cs r
  area_drawn r e = ap (ring_area t) (ring_drawn r e)

  group_drawn : (r : ℕ) → Stands r → group_at (view t m) r ≡ group_from t cs r
  group_drawn = group_is S

  -- ---- polygons and their order

  same_area : (q r : ℕ) → Stands q → Stands r → within_polygon v q r ≡ by_area t cs q r
  same_area q r a b = rw (area_drawn q a, area_drawn r b)

  abbrev others : ℕ → List ℕ
  others r = keep (λ q. eqb (group_at v q) (group_at v r)) (lowest_rows v)

  outer_drawn : (r : ℕ) → Stands r → outer_at v r ≡ outer_from t cs r
  unfolding outer_at outer_from
  outer_drawn r u =
      let kept : others r ≡ keep (λ q. eqb (group_from t cs q) (group_from t cs r)) (afresh.starts t cs) =
      keep_cong Stands (λ q. eqb (group_at v q) (group_at v r)) (λ q. eqb (group_from t cs q) (group_from t cs r)) (λ q a. rw (group_drawn q a, group_drawn r u)) (lowest_rows v) (starts_have S)
      ∙ ap (keep (λ q. eqb (group_from t cs q) (group_from t cs r))) (shown_starts S) in
      ap (head_or r) (sort_cong Stands (within_polygon v) (by_area t cs) same_area (others r) (all_keep Stands _ (lowest_rows v) (starts_have S)))
      ∙ ap (λ (l : List ℕ). head_or r (sort_by (by_area t cs) l)) kept

  outer_stands : (r : ℕ) → Stands r → Stands (outer_at v r)
  unfolding outer_at
  outer_stands r u = all_head Stands r (sort_by (within_polygon v) (others r)) u (all_sort Stands (within_polygon v) (others r) (all_keep Stands _ (lowest_rows v) (starts_have S)))

  same_order : (q r : ℕ) → Stands q → Stands r → ring_order v q r ≡ drawn_before t cs q r
  same_order q r a b = rw (
    area_drawn (outer_at v q) (outer_stands q a),
    area_drawn (outer_at v r) (outer_stands r b),
    outer_drawn q a,
    outer_drawn r b,
    same_area q r a b,
  )

  -- THE RINGS IN ORDER
  pub shown_drawn : ordered (view t m) ≡ drawn t cs
  unfolding ordered drawn
  shown_drawn = sort_cong Stands (ring_order v) (drawn_before t cs) same_order (lowest_rows v) (starts_have S) ∙ ap (sort_by (drawn_before t cs)) (shown_starts S)

  drawn_stand : All Stands (ordered v)
  unfolding ordered
  drawn_stand = all_sort Stands (ring_order v) (lowest_rows v) (starts_have S)

  -- ---- what is written

  same_rings : (l : List ℕ) → All Stands l → map (ring_at v) l ≡ map (ring_from t cs) l
  same_rings = map_cong Stands (ring_at v) (ring_from t cs) ring_drawn

  rings_drawn : map (ring_at (view t m)) (ordered (view t m)) ≡ drawn_rings t cs
  rings_drawn = same_rings (ordered v) drawn_stand ∙ ap (map (ring_from t cs)) shown_drawn

  groups_drawn : map (group_at v) (ordered v) ≡ map (ring_group t cs) (drawn_rings t cs)
  groups_drawn =
      map_cong Stands (group_at v) (group_from t cs) group_drawn (ordered v) drawn_stand
      ∙ ap (map (group_from t cs)) shown_drawn ∙ sym (map-map (ring_group t cs) (ring_from t cs) (drawn t cs))

  sizes_drawn : sizes v (ordered v) ≡ map length (drawn_rings t cs)
  sizes_drawn = sym (map-map length (ring_at v) (ordered v)) ∙ ap (map length) rings_drawn

  areas_drawn : map (area_at v) (ordered v) ≡ map (ring_area t) (drawn_rings t cs)
  areas_drawn = sym (map-map (ring_area t) (ring_at v) (ordered v)) ∙ ap (map (ring_area t)) rings_drawn

  starts_laid : (k : ℕ) (l : List ℕ) → starts v k l ≡ starts_from k (map (ring_at v) l)
  unfolding starts starts_from
  starts_laid k [] = refl
  starts_laid k (r ∷ l) = ap (λ (x : List ℕ). k ∷ x) (starts_laid (k + length (ring_at v r)) l)

  edges_laid : (l : List ℕ) → edge_rows v l ≡ laid (map (ring_at v) l)
  unfolding edge_rows laid
  edges_laid [] = refl
  edges_laid (r ∷ l) = ap (λ (x : List ℕ). ring_at v r ++ x) (edges_laid l)

  -- THE OUTPUTS
  pub shown_written : (o : Output) → written (view t m) o ≡ drawn_output t cs o
  unfolding written
  shown_written o =
      let begun = starts_laid 0 (ordered v) ∙ ap (starts_from 0) rings_drawn in
      let rows = edges_laid (ordered v) ∙ ap laid rings_drawn in
      λ i. record {
        start = over (begun i) o.start;
        size = over (sizes_drawn i) o.size;
        group = over (groups_drawn i) o.group;
        area = over (areas_drawn i) o.area;
        edges = over (rows i) o.edges;
      }

  -- ---- what is answered

  first_stands : (l : List ℕ) → All Stands l → eqb (length l) 0 ≡ false → Stands (head_or 0 l)
  first_stands [] a e = absurd (clash refl e)
  first_stands (r ∷ l) a e = a.0

  first_area : eqb (length (lowest_rows v)) 0 ≡ false → area_at v (head_or 0 (ordered v)) ≡ area_from t cs (head_or 0 (drawn t cs))
  unfolding ordered
  first_area e =
      let some : eqb (length (ordered v)) 0 ≡ false = ap (λ (n : ℕ). eqb n 0) (sort_length (ring_order v) (lowest_rows v)) ∙ e in
      area_drawn (head_or 0 (ordered v)) (first_stands (ordered v) drawn_stand some) ∙ ap (λ (l : List ℕ). area_from t cs (head_or 0 l)) shown_drawn

  -- THE ANSWER
  pub shown_answer : read_answer (view t m) ≡ drawn_answer t cs
  unfolding read_answer drawn_answer
  shown_answer = go (eqb (length (lowest_rows v)) 0) refl ∙ (λ i. answer (eqb (shown_count S i) 0) (none i) there)
    where
      answer : Bool → Bool → Answer → Answer
      answer a b some = cond a (Ok Nothing) (cond b (Ok Closed) some)

      here : Answer
      here = Ok (Outline (polygon_count v) (length (lowest_rows v)) (area_at v (head_or 0 (ordered v))))

      there : Answer
      there = Ok (Outline (length (polygons t cs)) (length (rings t cs)) (area_from t cs (head_or 0 (drawn t cs))))

      none : eqb (length (lowest_rows v)) 0 ≡ eqb (length (standing_rows t cs)) 0
      none = ap (λ (n : ℕ). eqb n 0) (shown_ring_count S) ∙ no_ring S.proper

      go : (b : Bool) → eqb (length (lowest_rows v)) 0 ≡ b
          → answer (eqb (held m) 0) b here ≡ answer (eqb (held m) 0) b there
      go true e = refl
      go false e = λ i. cond (eqb (held m) 0) (Ok Nothing) (Ok (Outline (shown_polygons S i) (shown_ring_count S i) (first_area e i)))
