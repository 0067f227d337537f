-- `survey_rings`: the calls in a row. Each step has what the next one asks, and the last what the function promises.
-- Assumes nothing.
use Prim.Native.Nat.{ℕ, ◌-◌, ◌<◌}
use mathlib.Core.Path.{◌≡◌, refl, sym, ◌∙◌, ap, subst}
use mathlib.Core.Logic.{◌≢◌}
use mathlib.Core.List.{List, [], ◌∷◌, ◌++◌}
use native.Mathlib.Omega.{arith}
use lib.Dec.{eqb}
use lib.Ieee.{Float}
use lib.ListN.{length, take, drop, length-replicate, get_or-replicate}
use lib.Seq.{ext_get_or, get_or-take}
use Rattle.scope.specs.Lists.{at, zeros}
use Rattle.scope.specs.Order.{View, ring_at, lowest_rows, group_at, area_at, edge_rows}
use Rattle.scope.proofs.Rules.{not_zero}
use Rattle.scope.proofs.Linked.{at_in}
use Rattle.scope.proofs.Below.{below_passes, below_same}
use Rattle.scope.proofs.Rings.{starts_stand}
use Rattle.ring_sort.specs.Fill.{Filling}
use Rattle.ring_sort.proofs.Fills.{filling_as, filling_over}
use Rattle.rings.specs.Links.{end_to_end, starts_in}
use Rattle.ring_order.specs.Listing.{twos_below, ListReady, Listed}
use Rattle.rings.specs.Laying.{laid_in, OutReady, LaidOut}
use Rattle.rings.specs.Grouping.{GroupsReady, Grouped, cell_in, marked_group, RingGroupsReady}
use Rattle.rings.specs.Views.{Readable, SurveyReady, Surveyed}
use Rattle.rings.proofs.Rounds.{links_permute}

pub edge_rows_lem : (v : View) (l : List ℕ) → edge_rows v l ≡ end_to_end (ring_at v) l
unfolding edge_rows end_to_end
edge_rows_lem v [] = refl
edge_rows_lem v (r ∷ l) = ap (λ (z : List ℕ). ring_at v r ++ z) (edge_rows_lem v l)

-- a list of marks that is clear stays what it was when it is cleared
pub cleared : (l l' : List ℕ) → length l' ≡ length l → ((i : ℕ) → at l i ≡ 0) → zeros l' ≡ l
cleared l l' e z =
    let k = length-replicate {A = ℕ} (length l') 0 in
    ext_get_or 0 (zeros l') l (k ∙ e) (λ i h. get_or-replicate (length l') i 0 0 (omega arith) ∙ sym (z i))

-- a lowest row stands
pub lowest_stands : {v : View} → Readable v → (i : ℕ) → i < length (lowest_rows v) → at v.row_slot (at (lowest_rows v) i) ≢ 0
lowest_stands {v} R i h = not_zero (at v.row_slot (at (lowest_rows v) i))
    (starts_stand (links_permute R.links) (at (lowest_rows v) i) (below_passes (starts_in v.row_slot v.slot_row v.next) (length v.row_slot) i h).1)

-- its cell is held
pub cell_ready : {v : View} → Readable v → (r : ℕ) → at v.row_slot r ≢ 0
    → (at v.row_slot r - 1 < length v.slot_cell) × (cell_in v.row_slot v.slot_cell r < v.held)
cell_ready {v} R r h =
    let u : at v.slot_row (at v.row_slot r - 1) ≢ 0 = (let e = R.links.row_held r h in λ z. omega arith) in
    let a = at_in v.slot_row (at v.row_slot r - 1) u in let b = R.cells in
    (omega arith, R.cell_held (at v.row_slot r - 1) u)

module _ {v : View} {row_mark cell_mark edges size rows group : List ℕ} {area : List Float} {n : ℕ} (R : SurveyReady v row_mark cell_mark edges size rows group area n) where
  twos_are : twos_below row_mark (length row_mark) ≡ lowest_rows v
  twos_are =
      ap (twos_below row_mark) R.marks.row_marks
      ∙ below_same (λ x. eqb (at row_mark x) 2) (starts_in v.row_slot v.slot_row v.next) (length v.row_slot) R.twos

  twos_count : length (twos_below row_mark (length row_mark)) ≡ n
  twos_count = ap length twos_are ∙ sym R.count

  pub survey_list : ListReady row_mark rows
  survey_list = record {
    few = let a = R.readable.links.few in let b = R.marks.row_marks in omega arith;
    room = let a = twos_count in let b = R.rows_room in omega arith;
  }

  pub survey_groups : GroupsReady v.parent cell_mark v.held
  survey_groups = record {
    parents = R.readable.parents;
    space = let a = R.readable.parents.forest.room in let b = R.marks.cell_marks in omega arith;
    clear = R.marks.cells_clear;
  }

  module _ {rows₁ : List ℕ} (L : Listed row_mark rows rows₁) where
    front : take n rows₁ ≡ lowest_rows v
    front = ap (λ (z : ℕ). take z rows₁) (sym twos_count) ∙ L.wrote ∙ twos_are

    row_is : (i : ℕ) → i < n → at rows₁ i ≡ at (lowest_rows v) i
    row_is i h = sym (get_or-take n rows₁ i 0 h) ∙ ap (λ (l : List ℕ). at l i) front

    listed : Filling 0 (at (lowest_rows v)) rows rows₁ n
    listed = record { wrote = row_is; behind = subst (λ (z : ℕ). drop z rows₁ ≡ drop z rows) twos_count L.behind; len = L.len }

    row_stands : (i : ℕ) → i < n → at v.row_slot (at rows₁ i) ≢ 0
    row_stands i h = subst (λ (r : ℕ). at v.row_slot r ≢ 0) (sym (row_is i h)) (lowest_stands R.readable i (let e = R.count in omega arith))

    laid_is : laid_in v.row_slot v.slot_row v.next rows₁ n ≡ edge_rows v (lowest_rows v)
    laid_is = ap (end_to_end (ring_at v)) front ∙ sym (edge_rows_lem v (lowest_rows v))

    pub survey_lay : OutReady v.row_slot v.slot_row v.next v.terms rows₁ n edges group size area
    survey_lay =
        let e = ap length laid_is in
        record {
          lay = record {
            links = R.readable.links;
            rows_in = let a = L.len in let b = R.rows_room in omega arith;
            stand = row_stands;
            room = let a = R.edges_room in omega arith;
            few = let a = R.few in omega arith;
            start_room = R.group_room;
            size_room = R.size_room;
          };
          term_count = R.readable.terms;
          area_room = R.area_room;
        }

    module _ {edges₁ group₁ size₁ : List ℕ} {area₁ : List Float} (O : LaidOut v.row_slot v.slot_row v.next v.terms rows₁ n edges group size area edges₁ group₁ size₁ area₁)
        {cellMark₁ : List ℕ} (G : Grouped v.parent cell_mark v.held cellMark₁) where
      pub survey_rings_groups : RingGroupsReady v.row_slot v.slot_cell cellMark₁ rows₁ group₁ n
      survey_rings_groups = record {
        rows_in = let a = L.len in let b = R.rows_room in omega arith;
        room = let a = R.group_room in let b = O.laid.starts.len in omega arith;
        cells = λ i h.
            let s = row_stands i h in
            let c = cell_ready R.readable (at rows₁ i) s in
            let g = G.groups (cell_in v.row_slot v.slot_cell (at rows₁ i)) c.1 in
            record {
              stands = s;
              slot-in = c.0;
              cell_within = let a = survey_groups.space in let b = G.len in let d = c.1 in omega arith;
              some = λ z. omega arith;
            };
      }

      group_is : (i : ℕ) → i < n → marked_group v.row_slot v.slot_cell cellMark₁ (at rows₁ i) ≡ group_at v (at (lowest_rows v) i)
      group_is i h =
          let c = cell_ready R.readable (at rows₁ i) (row_stands i h) in
          let g = G.groups (cell_in v.row_slot v.slot_cell (at rows₁ i)) c.1 in
          let e : at cellMark₁ (cell_in v.row_slot v.slot_cell (at rows₁ i)) - 1 ≡ group_at v (at rows₁ i) = omega arith in
          e ∙ ap (group_at v) (row_is i h)

      pub survey_done : {group₂ : List ℕ} → Filling 0 (λ i. marked_group v.row_slot v.slot_cell cellMark₁ (at rows₁ i)) group₁ group₂ n
          → {rowMark₁ cellMark₂ : List ℕ} → rowMark₁ ≡ zeros row_mark → cellMark₂ ≡ zeros cellMark₁
          → Surveyed v row_mark cell_mark edges size rows group area n rowMark₁ cellMark₂ edges₁ size₁ rows₁ group₂ area₁
      survey_done F {rowMark₁} {cellMark₂} z y = record {
        rows_are = listed;
        groups_are = filling_over (filling_as group_is F) O.laid.starts.behind O.laid.starts.len;
        areas_are = filling_as (λ i h. ap (area_at v) (row_is i h)) O.areas;
        row_marks = z;
        cell_marks = y ∙ cleared cell_mark cellMark₁ G.len R.marks.cells_clear;
        edges_behind = subst (λ (k : ℕ). drop k edges₁ ≡ drop k edges) (ap length laid_is) O.laid.behind;
        edges_len = O.laid.len;
        size_behind = O.laid.sizes.behind;
        size_len = O.laid.sizes.len;
      }
