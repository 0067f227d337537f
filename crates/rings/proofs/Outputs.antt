-- What `write_rings` leaves: each output holds what document 01 has written, and past it what it held.
-- Assumes nothing.
use Prim.Native.Nat.{ℕ, ◌+◌, ◌≤◌, ◌<◌}
use mathlib.Core.Path.{◌≡◌, refl, sym, ◌∙◌, ap, ap₂, subst}
use mathlib.Core.Bool.{Bool, true, false, cond}
use mathlib.Core.Logic.{◌≢◌}
use mathlib.Core.List.{List, [], ◌∷◌, map}
use native.Mathlib.Omega.{arith}
use borrow.Author.Tests.{eq-eqb}
use lib.Dec.{eqb}
use lib.Ieee.{Float, nan}
use lib.ListN.{length, get_or, take, drop, replicate, length-replicate}
use Rattle.std.specs.Prelude.{Ok}
use Rattle.scope.specs.declared.ReadOut.{ReadOut}
use Rattle.scope.specs.declared.ReadOut.TheVariants.{Nothing, Closed, Outline}
use Rattle.scope.specs.Answers.{Answer}
use Rattle.scope.specs.Lists.{at, zeros, head_or}
use Rattle.scope.specs.Area.{area_of}
use Rattle.scope.specs.Memory.{output}
use Rattle.scope.specs.Order.{View, ring_at, lowest_rows, area_at, group_at, ordered, starts, sizes, edge_rows, polygon_count, read_answer}
use Rattle.scope.specs.Calls.{over, written}
use Rattle.scope.proofs.Members.{cases}
use Rattle.scope.proofs.Over.{over_back, over_length, front_over}
use Rattle.scope.proofs.Below.{map_at, map_length, tabulate_length}
use Rattle.ring_order.specs.Polygons.{outers_of, outer_of}
use Rattle.ring_sort.specs.Fill.{Filling, picked}
use Rattle.ring_order.specs.Ordered.{Ordered}
use Rattle.ring_sort.proofs.Fills.{filling_over, filling_is}
use Rattle.ring_sort.proofs.Parts.{drop_more}
use Rattle.rings.specs.Links.{end_to_end, ring_in}
use Rattle.rings.specs.Laying.{laid_in, terms_of, LaidOut}
use Rattle.rings.specs.Views.{edge_count, Surveyed}
use Rattle.rings.specs.Build.{answer_of, WriteReady, Wrote}
use Rattle.rings.proofs.Matching.{polygons_are}
use Rattle.rings.proofs.Writing.{starts_length, starts_at, numbered, n_edges, write_order, order, count_ordered, count_order, number_at, number_low, ordered_at, row_at, rows_are, front, laid_is, laid_count, edges_length, size_length, ordered_edges}

-- ---- the answer

-- the first area counts only where there is a ring
answer_same : (held rings polygons : ℕ) (first other : Float) → (rings ≢ 0 → first ≡ other) → answer_of held rings polygons first ≡ answer_of held rings polygons other
answer_same held rings polygons first other e = cases rings 0
    (λ z. rw (eq-eqb rings 0 z) refl)
    (λ d. ap (λ (x : Float). answer_of held rings polygons x) (e d))

ok_cond : (a b : Bool) (x y z : ReadOut) → cond {A = Answer} a (Ok x) (cond b (Ok y) (Ok z)) ≡ Ok (cond a x (cond b y z))
ok_cond true b x y z = refl
ok_cond false true x y z = refl
ok_cond false false x y z = refl

-- the answer of a view
answer_view : (v : View) → read_answer v ≡ Ok (answer_of v.held (length (lowest_rows v)) (polygon_count v) (area_at v (head_or 0 (ordered v))))
unfolding read_answer
answer_view v = ok_cond (eqb v.held 0) (eqb (length (lowest_rows v)) 0) Nothing Closed (Outline (polygon_count v) (length (lowest_rows v)) (area_at v (head_or 0 (ordered v))))

head_at : (l : List ℕ) → 0 < length l → head_or 0 l ≡ at l 0
head_at [] h = absurd (omega arith)
head_at (x ∷ l) h = refl

output_same : {s s' z z' g g' e e' : List ℕ} {a a' : List Float} → s ≡ s' → z ≡ z' → g ≡ g' → a ≡ a' → e ≡ e' → output s z g a e ≡ output s' z' g' a' e'
output_same p q r t u = cc

module _ {v : View} {row_mark cell_mark start size group : List ℕ} {area : List Float} {edges : List ℕ} {n : ℕ}
    (R : WriteReady v row_mark cell_mark (output start size group area edges) n)
    {rowMark₁ cellMark₁ edges₁ size₁ group₁ start₁ : List ℕ} {area₁ : List Float}
    (S : Surveyed v row_mark cell_mark edges size group start area n rowMark₁ cellMark₁ edges₁ size₁ group₁ start₁ area₁)
    {cellMark₂ size₂ edges₂ rowMark₂ : List ℕ} {polygons : ℕ} (O : Ordered group₁ area₁ start₁ n cellMark₁ size₁ edges₁ rowMark₁ cellMark₂ size₂ edges₂ rowMark₂ polygons) where
  low : (i : ℕ) → i < n → i < length (ordered v)
  low i h = let c = count_ordered R S O in omega arith

  -- behind the numbers and the outers
  size_behind : drop n size₂ ≡ drop n size
  size_behind =
      let c = tabulate_length (outer_of area₁ start₁ n) 0 n in
      ap (drop n) O.outers ∙ subst (λ (k : ℕ). drop k (over (outers_of area₁ start₁ n) size₁) ≡ drop k size₁) c (over_back (outers_of area₁ start₁ n) size₁) ∙ S.size_behind

  edges_behind : drop (edge_count v) edges₂ ≡ drop (edge_count v) edges
  edges_behind =
      drop_more n (edge_count v) edges₂ edges₁ (n_edges R S)
      (ap (drop n) O.numbers ∙ subst (λ (k : ℕ). drop k (over (order R S O) edges₁) ≡ drop k edges₁) (count_order R S O) (over_back (order R S O) edges₁))
      ∙ S.edges_behind

  -- ---- the five outputs

  starts_are : {start₂ : List ℕ} → Filling 0 (λ i. length (laid_in v.row_slot v.slot_row v.next rowMark₂ i)) start₁ start₂ n → start₂ ≡ over (starts v 0 (ordered v)) start
  starts_are F = filling_is 0 (filling_over F S.groups_are.behind S.groups_are.len) (starts v 0 (ordered v)) (starts_length v 0 (ordered v) ∙ count_ordered R S O) R.start_room
      (λ i h. ap (λ (l : List ℕ). length (end_to_end (ring_at v) l)) (front R S O i (omega arith)) ∙ sym (starts_at v 0 (ordered v) i (low i h) ∙ plus_zero (length (end_to_end (ring_at v) (take i (ordered v))))))
    where
      plus_zero : (k : ℕ) → 0 + k ≡ k
      plus_zero k = omega arith

  sizes_are : {size₃ : List ℕ} → Filling 0 (λ i. length (ring_in v.row_slot v.slot_row v.next (at rowMark₂ i))) size₂ size₃ n → size₃ ≡ over (sizes v (ordered v)) size
  sizes_are F = filling_is 0 (filling_over F size_behind (size_length R S O)) (sizes v (ordered v)) (map_length (λ r. length (ring_at v r)) (ordered v) ∙ count_ordered R S O) R.survey.size_room
      (λ i h. ap (λ (r : ℕ). length (ring_at v r)) (row_at R S O i h) ∙ sym (map_at 0 (λ r. length (ring_at v r)) (ordered v) i (low i h)))

  groups_are : {group₂ : List ℕ} → Filling 0 (picked start₁ edges₂ 0) group₁ group₂ n → group₂ ≡ over (map (group_at v) (ordered v)) group
  groups_are F = filling_is 0 (filling_over F S.rows_are.behind S.rows_are.len) (map (group_at v) (ordered v)) (map_length (group_at v) (ordered v) ∙ count_ordered R S O) R.survey.rows_room
      (λ i h.
      let less : picked start₁ edges₂ 0 i ≡ at start₁ (at edges₂ i) = omega arith in
      less ∙ ap (at start₁) (number_at R S O i h) ∙ S.groups_are.wrote (at (order R S O) i) (number_low R S O i h)
      ∙ ap (group_at v) (sym (ordered_at R S O i h)) ∙ sym (map_at 0 (group_at v) (ordered v) i (low i h)))

  module _ {area₂ : List Float} (F : Filling nan (λ i. area_of (terms_of v.terms (ring_in v.row_slot v.slot_row v.next (at rowMark₂ i)))) area₁ area₂ n) where
    areas_are : area₂ ≡ over (map (area_at v) (ordered v)) area
    areas_are = filling_is nan (filling_over F S.areas_are.behind S.areas_are.len) (map (area_at v) (ordered v)) (map_length (area_at v) (ordered v) ∙ count_ordered R S O) R.survey.area_room
        (λ i h. ap (area_at v) (row_at R S O i h) ∙ sym (map_at nan (area_at v) (ordered v) i (low i h)))

    first_area : n ≢ 0 → get_or area₂ 0 nan ≡ area_at v (head_or 0 (ordered v))
    first_area d = F.wrote 0 (omega arith) ∙ ap (area_at v) (row_at R S O 0 (omega arith) ∙ sym (head_at (ordered v) (low 0 (omega arith))))

    pub write_answer : n ≤ length area₂
    write_answer = let a = F.len in let b = (write_order R S).areas in omega arith

    answered : {r : ReadOut} → r ≡ answer_of v.held n polygons (get_or area₂ 0 nan) → Ok r ≡ read_answer v
    answered e =
        ap Ok (e ∙ answer_same v.held n polygons (get_or area₂ 0 nan) (area_at v (head_or 0 (ordered v))) first_area
        ∙ ap₂ (λ (a b : ℕ). answer_of v.held a b (area_at v (head_or 0 (ordered v)))) R.survey.count (O.count ∙ polygons_are (numbered R S)))
        ∙ sym (answer_view v)

  module _ {edges₃ start₂ size₃ : List ℕ} {area₂ : List Float} (D : LaidOut v.row_slot v.slot_row v.next v.terms rowMark₂ n edges₂ start₁ size₂ area₁ edges₃ start₂ size₃ area₂) where
    edges_are : edges₃ ≡ over (edge_rows v (ordered v)) edges
    edges_are =
        let e = laid_count R S O in
        front_over (edge_rows v (ordered v)) edges₃ edges
        (subst (λ (k : ℕ). take k edges₃ ≡ edge_rows v (ordered v)) e (D.laid.wrote ∙ laid_is R S O))
        (ordered_edges v)
        (subst (λ (k : ℕ). drop k edges₃ ≡ drop k edges₂) e D.laid.behind ∙ edges_behind)

    marks_length : length rowMark₂ ≡ length row_mark
    marks_length =
        ap length (rows_are R S O) ∙ over_length (ordered v) rowMark₁ (let c = count_ordered R S O in let d = (write_order R S).out_room in omega arith)
        ∙ ap length S.row_marks ∙ length-replicate (length row_mark) 0

    module _ {group₂ : List ℕ} (G : Filling 0 (picked start₁ edges₂ 0) group₁ group₂ n) {rowMark₃ : List ℕ} (z : rowMark₃ ≡ zeros rowMark₂) where
      pub write_lengths : (length rowMark₃ ≡ length row_mark) × (length cellMark₂ ≡ length cell_mark) × (length start₂ ≡ length start) × (length size₃ ≡ length size)
          × (length group₂ ≡ length group) × (length area₂ ≡ length area) × (length edges₃ ≡ length edges)
      write_lengths = (
        ap length z ∙ length-replicate (length rowMark₂) 0 ∙ marks_length,
        ap length (O.marks ∙ S.cell_marks),
        D.laid.starts.len ∙ S.groups_are.len,
        D.laid.sizes.len ∙ size_length R S O,
        G.len ∙ S.rows_are.len,
        D.areas.len ∙ S.areas_are.len,
        D.laid.len ∙ edges_length R S O,
      )

      pub write_done : {r : ReadOut} → r ≡ answer_of v.held n polygons (get_or area₂ 0 nan)
          → Wrote v row_mark cell_mark (output start size group area edges) rowMark₃ cellMark₂ (output start₂ size₃ group₂ area₂ edges₃) r
      unfolding written
      write_done e = record {
        answer = answered D.areas e;
        out = output_same (starts_are D.laid.starts) (sizes_are D.laid.sizes) (groups_are G) (areas_are D.areas) edges_are;
        row_marks = z ∙ ap (λ (k : ℕ). replicate k 0) marks_length;
        cell_marks = O.marks ∙ S.cell_marks;
      }
