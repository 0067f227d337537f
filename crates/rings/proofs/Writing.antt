-- `write_rings`: the calls in a row, each with what it asks: the rings in their order, by number in the edge list and by row in the marks.
-- Assumes nothing.
use Prim.Native.Nat.{ℕ, zero, suc, ◌+◌, ◌≤◌, ◌<◌}
use mathlib.Core.Path.{◌≡◌, refl, sym, ◌∙◌, ap, subst}
use mathlib.Core.Logic.{◌≢◌}
use mathlib.Core.List.{List, [], ◌∷◌, ◌++◌}
use native.Mathlib.Omega.{arith}
use lib.Ieee.{Float}
use lib.ListN.{length, take, length-append, length-replicate}
use lib.Seq.{take-take, take_all}
use Rattle.scope.specs.Lists.{at}
use Rattle.scope.specs.Memory.{output}
use Rattle.scope.specs.Order.{View, ring_at, lowest_rows, group_at, ordered, starts, edge_rows, ring_order}
use Rattle.scope.specs.Calls.{over}
use Rattle.scope.specs.Afresh.{ring}
use Rattle.scope.proofs.Over.{over_front, over_at, over_length}
use Rattle.scope.proofs.Below.{below_count, map_at, map_length, tabulate_length}
use Rattle.scope.proofs.Sorting.{all_at, sort_length}
use Rattle.scope.proofs.Sorted.{Perm, none, skip, swap, both, sort_perm}
use Rattle.ring_order.specs.Polygons.{order_of, outers_of}
use Rattle.ring_sort.specs.Fill.{GatherReady}
use Rattle.ring_order.specs.Ordered.{OrderReady, Ordered}
use Rattle.rings.specs.Links.{end_to_end, starts_in}
use Rattle.rings.specs.Laying.{laid_in, OutReady}
use Rattle.rings.specs.Grouping.{cell_in}
use Rattle.rings.specs.Views.{edge_count, Surveyed}
use Rattle.rings.specs.Build.{WriteReady}
use Rattle.rings.proofs.Paths.{group_low}
use Rattle.rings.proofs.Matching.{Numbered, order_numbers, order_is, order_all_low}
use Rattle.rings.proofs.Surveys.{edge_rows_lem, lowest_stands, cell_ready}

-- ---- rings in another order

-- as many edges
end_perm : (ring : ℕ → List ℕ) {l l' : List ℕ} → Perm l l' → length (end_to_end ring l) ≡ length (end_to_end ring l')
unfolding end_to_end
end_perm ring none = refl
end_perm ring (skip {x = x} {l = l} {l' = k} p) =
    length-append (ring x) (end_to_end ring l) ∙ ap (λ (z : ℕ). length (ring x) + z) (end_perm ring p) ∙ sym (length-append (ring x) (end_to_end ring k))
end_perm ring (swap {x = x} {y = y} {l = l}) =
    let a = length-append (ring x) (ring y ++ end_to_end ring l) in let b = length-append (ring y) (end_to_end ring l) in
    let c = length-append (ring y) (ring x ++ end_to_end ring l) in let d = length-append (ring x) (end_to_end ring l) in
    omega arith
end_perm ring (both p q) = end_perm ring p ∙ end_perm ring q

pub ordered_edges : (v : View) → length (edge_rows v (ordered v)) ≡ edge_count v
unfolding ordered
ordered_edges v =
    ap length (edge_rows_lem v (ordered v)) ∙ sym (end_perm (ring_at v) (sort_perm (ring_order v) (lowest_rows v))) ∙ sym (ap length (edge_rows_lem v (lowest_rows v)))

pub ordered_count : (v : View) → length (ordered v) ≡ length (lowest_rows v)
unfolding ordered
ordered_count v = sort_length (ring_order v) (lowest_rows v)

-- no ring is empty
end_most : (v : View) (l : List ℕ) → length l ≤ length (end_to_end (ring_at v) l)
unfolding end_to_end ring
end_most v [] = omega arith
end_most v (r ∷ l) = let a = end_most v l in let b = length-append (ring_at v r) (end_to_end (ring_at v) l) in omega arith

rings_edges : (v : View) → length (lowest_rows v) ≤ edge_count v
rings_edges v = let a = end_most v (lowest_rows v) in let b = ap length (edge_rows_lem v (lowest_rows v)) in omega arith

-- ---- where a ring starts

pub starts_length : (v : View) (k : ℕ) (l : List ℕ) → length (starts v k l) ≡ length l
unfolding starts
starts_length v k [] = refl
starts_length v k (r ∷ l) = ap suc (starts_length v (k + length (ring_at v r)) l)

pub starts_at : (v : View) (k : ℕ) (l : List ℕ) (i : ℕ) → i < length l → at (starts v k l) i ≡ k + length (end_to_end (ring_at v) (take i l))
unfolding starts end_to_end
starts_at v k [] i h = absurd (omega arith)
starts_at v k (r ∷ l) zero h = let z : k ≡ k + 0 = omega arith in z
starts_at v k (r ∷ l) (suc i) h =
    let a = starts_at v (k + length (ring_at v r)) l i (omega arith) in let b = length-append (ring_at v r) (end_to_end (ring_at v) (take i l)) in
    omega arith

-- ---- the calls

module _ {v : View} {row_mark cell_mark start size group : List ℕ} {area : List Float} {edges : List ℕ} {n : ℕ}
    (R : WriteReady v row_mark cell_mark (output start size group area edges) n)
    {rowMark₁ cellMark₁ edges₁ size₁ group₁ start₁ : List ℕ} {area₁ : List Float}
    (S : Surveyed v row_mark cell_mark edges size group start area n rowMark₁ cellMark₁ edges₁ size₁ group₁ start₁ area₁) where
  pub numbered : Numbered v group₁ area₁ start₁ n
  numbered = record { count = R.survey.count; rows_are = S.rows_are.wrote; areas_are = S.areas_are.wrote; groups_are = S.groups_are.wrote }

  pub n_edges : n ≤ edge_count v
  n_edges = let a = rings_edges v in let b = R.survey.count in omega arith

  group_held : (i : ℕ) → i < n → group_at v (at (lowest_rows v) i) < v.held
  group_held i h =
      let s = lowest_stands R.survey.readable i (let e = R.survey.count in omega arith) in
      let c = cell_ready R.survey.readable (at (lowest_rows v) i) s in
      let g = group_low v.parent v.held (cell_in v.row_slot v.slot_cell (at (lowest_rows v) i)) c.1 in
      let k = c.1 in
      omega arith

  rows_length : length rowMark₁ ≡ length v.row_slot
  rows_length = ap length S.row_marks ∙ length-replicate (length row_mark) 0 ∙ R.survey.marks.row_marks

  n_rows : n ≤ length v.row_slot
  n_rows = let a = below_count (starts_in v.row_slot v.slot_row v.next) (length v.row_slot) in let b = R.survey.count in omega arith

  pub write_order : OrderReady group₁ area₁ start₁ n cellMark₁ size₁ edges₁ rowMark₁
  write_order = record {
    few = let a = n_rows in let b = R.survey.readable.links.few in omega arith;
    rows_in = let a = S.rows_are.len in let b = R.survey.rows_room in omega arith;
    areas = let a = S.areas_are.len in let b = R.survey.area_room in omega arith;
    groups = let a = S.groups_are.len in let b = R.start_room in omega arith;
    group_in = λ i h.
        let a = group_held i h in let b = S.groups_are.wrote i h in let c = R.survey.readable.parents.forest.room in
        let d = R.survey.marks.cell_marks in let e = ap length S.cell_marks in
        omega arith;
    clear = λ g. ap (λ (l : List ℕ). at l g) S.cell_marks ∙ R.survey.marks.cells_clear g;
    outer_room = let a = S.size_len in let b = R.survey.size_room in omega arith;
    idx_room = let a = S.edges_len in let b = R.survey.edges_room in let c = n_edges in omega arith;
    out_room = let a = rows_length in let b = n_rows in omega arith;
  }

  module _ {cellMark₂ size₂ edges₂ rowMark₂ : List ℕ} {polygons : ℕ} (O : Ordered group₁ area₁ start₁ n cellMark₁ size₁ edges₁ rowMark₁ cellMark₂ size₂ edges₂ rowMark₂ polygons) where
    abbrev pub order : List ℕ
    order = order_of area₁ start₁ n

    pub count_ordered : length (ordered v) ≡ n
    count_ordered = ordered_count v ∙ sym R.survey.count

    pub count_order : length order ≡ n
    count_order = sym (map_length (at (lowest_rows v)) order) ∙ ap length (order_numbers numbered) ∙ count_ordered

    pub rows_are : rowMark₂ ≡ over (ordered v) rowMark₁
    rows_are = O.ordered ∙ ap (λ (l : List ℕ). over l rowMark₁) (order_is numbered)

    -- the i-th ring of the order, by number and by row
    pub number_at : (i : ℕ) → i < n → at edges₂ i ≡ at order i
    number_at i h = ap (λ (l : List ℕ). at l i) O.numbers ∙ over_at order edges₁ i 0 (let c = count_order in omega arith)

    pub number_low : (i : ℕ) → i < n → at order i < n
    number_low i h = all_at (λ x. x < n) order (order_all_low numbered) i (let c = count_order in omega arith)

    pub ordered_at : (i : ℕ) → i < n → at (ordered v) i ≡ at (lowest_rows v) (at order i)
    ordered_at i h = ap (λ (l : List ℕ). at l i) (sym (order_numbers numbered)) ∙ map_at 0 (at (lowest_rows v)) order i (let c = count_order in omega arith)

    pub row_at : (i : ℕ) → i < n → at rowMark₂ i ≡ at (ordered v) i
    row_at i h = ap (λ (l : List ℕ). at l i) rows_are ∙ over_at (ordered v) rowMark₁ i 0 (let c = count_ordered in omega arith)

    pub edges_length : length edges₂ ≡ length edges
    edges_length =
        ap length O.numbers ∙ over_length order edges₁ (let c = count_order in let a = write_order.idx_room in omega arith) ∙ S.edges_len

    pub size_length : length size₂ ≡ length size
    size_length = ap length O.outers ∙ over_length (outers_of area₁ start₁ n) size₁ (let c = outers_count in let a = write_order.outer_room in omega arith) ∙ S.size_len
      where
        outers_count : length (outers_of area₁ start₁ n) ≡ n
        outers_count = tabulate_length _ 0 n

    pub write_groups : GatherReady start₁ edges₂ group₁ n 0
    write_groups = record {
      places_in = let a = edges_length in let b = R.survey.edges_room in let c = n_edges in omega arith;
      room = write_order.rows_in;
      src_in = λ i h. let a = number_at i h in let b = number_low i h in let c = write_order.groups in omega arith;
      enough = λ i h. omega arith;
    }

    pub front : (i : ℕ) → i ≤ n → take i rowMark₂ ≡ take i (ordered v)
    front i h =
        sym (take-take i n rowMark₂ h) ∙ ap (take i) (ap (take n) rows_are ∙ ap (λ (z : ℕ). take z (over (ordered v) rowMark₁)) (sym count_ordered) ∙ over_front (ordered v) rowMark₁)

    pub laid_is : laid_in v.row_slot v.slot_row v.next rowMark₂ n ≡ edge_rows v (ordered v)
    laid_is =
        ap (end_to_end (ring_at v)) (front n (omega arith) ∙ take_all n (ordered v) (let c = count_ordered in omega arith)) ∙ sym (edge_rows_lem v (ordered v))

    pub laid_count : length (laid_in v.row_slot v.slot_row v.next rowMark₂ n) ≡ edge_count v
    laid_count = ap length laid_is ∙ ordered_edges v

    pub write_lay : OutReady v.row_slot v.slot_row v.next v.terms rowMark₂ n edges₂ start₁ size₂ area₁
    write_lay = record {
      lay = record {
        links = R.survey.readable.links;
        rows_in = let a = ap length rows_are in let b = over_length (ordered v) rowMark₁ (let c = count_ordered in let d = write_order.out_room in omega arith) in let c = write_order.out_room in omega arith;
        stand = λ i h.
            let k = number_low i h in
            subst (λ (r : ℕ). at v.row_slot r ≢ 0) (sym (row_at i h ∙ ordered_at i h)) (lowest_stands R.survey.readable (at order i) (let e = R.survey.count in omega arith));
        room = let a = laid_count in let b = edges_length in let c = R.survey.edges_room in omega arith;
        few = let a = laid_count in let b = R.survey.few in omega arith;
        start_room = write_order.groups;
        size_room = let a = size_length in let b = R.survey.size_room in omega arith;
      };
      term_count = R.survey.readable.terms;
      area_room = write_order.areas;
    }
