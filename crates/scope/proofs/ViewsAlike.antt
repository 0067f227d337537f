-- Read out depends on the standing rows, their links, the area terms and which rows are in one group, and on nothing else: two views that
-- agree in these have the same rings in the same order, with the same sizes and areas, and the same answer. Only the numbers by which they
-- name the groups may differ.
--     Alike v w         what the views agree in
--     alike_rings       the ring of a standing row; `alike_lowest`: the rings by their lowest rows
--     alike_outer       the outer of a polygon
--     alike_ordered     THE ORDER of the ring list; `alike_starts`, `alike_sizes`, `alike_areas`, `alike_edges`: what is written
--     alike_answer      the answer
-- Assumes nothing.
use mathlib.Core.Path.{◌≡◌, refl, sym, ◌∙◌, ap}
use mathlib.Core.Logic.{⊎_elim}
use mathlib.Core.Bool.{Bool, true, false, cond}
use mathlib.Core.List.{List, [], ◌∷◌, map, Memᴰ}
use Prim.Native.Nat.{ℕ, ◌+◌}
use lib.Dec.{eqb}
use lib.ListN.{length}
use Rattle.scope.specs.Answers.{Answer}
use Rattle.std.specs.Prelude.{Ok}
use Rattle.scope.specs.declared.ReadOut.TheVariants.{Nothing, Closed, Outline}
use Rattle.scope.specs.Lists.{below, keep, head_or}
use Rattle.scope.specs.Afresh.{ring, starts_ring}
use Rattle.scope.specs.Order.{View, sort_by, stands_at, next_row, ring_at, lowest_rows, area_at, group_at, within_polygon, outer_at, ring_order, ordered, polygon_count, starts, sizes, edge_rows, read_answer}
use Rattle.scope.proofs.Tests.{either, clash}
use Rattle.scope.proofs.Members.{mem_below}
use Rattle.scope.proofs.Below.{below_same}
use Rattle.scope.proofs.Cycle.{Permutes, iter, iter_in}
use Rattle.scope.proofs.Rings.{ring_same, starts_stand}
use Rattle.scope.proofs.Sorting.{All, all_sort, sort_cong, sort_length}

abbrev pub after : View → ℕ → ℕ
after v = next_row v.row_slot v.slot_row v.next

pub record Alike (v w : View) : Type 0 where
  pub rows : length w.row_slot ≡ length v.row_slot
  pub stands : (r : ℕ) → stands_at w.row_slot r ≡ stands_at v.row_slot r
  pub turns : Permutes (length v.row_slot) (λ r. stands_at v.row_slot r ≡ true) (after v)
  pub links : (r : ℕ) → stands_at v.row_slot r ≡ true → after w r ≡ after v r
  pub groups : (q r : ℕ) → stands_at v.row_slot q ≡ true → stands_at v.row_slot r ≡ true → eqb (group_at w q) (group_at w r) ≡ eqb (group_at v q) (group_at v r)
  pub terms : w.terms ≡ v.terms

-- ---- every member of a list

module _ (P : ℕ → Type 0) where
  pub all_mem : (l : List ℕ) → ((x : ℕ) → Memᴰ x l → P x) → All P l
  all_mem [] f = tt
  all_mem (x ∷ l) f = (f x (Memᴰ.head refl), all_mem l (λ y m. f y (Memᴰ.tail m)))

  pub all_keep : (ok : ℕ → Bool) (l : List ℕ) → All P l → All P (keep ok l)
  unfolding keep
  all_keep ok [] a = tt
  all_keep ok (x ∷ l) a = ⊎_elim (λ e. rw e (a.0, all_keep ok l a.1)) (λ e. rw e (all_keep ok l a.1)) (either (ok x))

  pub all_head : (d : ℕ) (l : List ℕ) → P d → All P l → P (head_or d l)
  all_head d [] p a = p
  all_head d (x ∷ l) p a = a.0

  pub keep_cong : (ok ko : ℕ → Bool) → ((x : ℕ) → P x → ok x ≡ ko x) → (l : List ℕ) → All P l → keep ok l ≡ keep ko l
  unfolding keep
  keep_cong ok ko e [] a = refl
  keep_cong ok ko e (x ∷ l) a = rw (e x a.0, keep_cong ok ko e l a.1)

  pub map_cong : {B : Type 0} (f g : ℕ → B) → ((x : ℕ) → P x → f x ≡ g x) → (l : List ℕ) → All P l → map f l ≡ map g l
  map_cong f g e [] a = refl
  map_cong f g e (x ∷ l) a = rw (e x a.0, map_cong f g e l a.1)

abbrev answer : Bool → Bool → Answer → Answer
answer none closed some = cond none (Ok Nothing) (cond closed (Ok Closed) some)

abbrev found : View → Answer
found v = Ok (Outline (polygon_count v) (length (lowest_rows v)) (area_at v (head_or 0 (ordered v))))

module _ {v w : View} (A : Alike v w) where
  abbrev S : ℕ → Type 0
  S r = stands_at v.row_slot r ≡ true

  -- ---- rings

  pub alike_rings : (r : ℕ) → stands_at v.row_slot r ≡ true → ring_at w r ≡ ring_at v r
  alike_rings r u = ap (λ (n : ℕ). ring n (after w) r) A.rows ∙ ring_same A.turns (after w) r u (λ k. A.links (iter (after v) k r) (iter_in A.turns k r u))

  start : (r : ℕ) → starts_ring (length w.row_slot) (stands_at w.row_slot) (after w) r ≡ starts_ring (length v.row_slot) (stands_at v.row_slot) (after v) r
  unfolding starts_ring
  start r = ⊎_elim
      (λ (u : stands_at v.row_slot r ≡ true). rw (A.stands r, u, alike_rings r u))
      (λ (u : stands_at v.row_slot r ≡ false). rw (A.stands r, u))
      (either (stands_at v.row_slot r))

  pub alike_lowest : lowest_rows w ≡ lowest_rows v
  alike_lowest =
      ap (λ (n : ℕ). below (starts_ring (length w.row_slot) (stands_at w.row_slot) (after w)) n) A.rows
      ∙ below_same (starts_ring (length w.row_slot) (stands_at w.row_slot) (after w)) (starts_ring (length v.row_slot) (stands_at v.row_slot) (after v))
      (length v.row_slot) (λ r h. start r)

  lowest_stand : All S (lowest_rows v)
  lowest_stand = all_mem S (lowest_rows v) (λ r m. starts_stand A.turns r (mem_below (starts_ring (length v.row_slot) (stands_at v.row_slot) (after v)) (length v.row_slot) r m).1)

  pub alike_area : (r : ℕ) → stands_at v.row_slot r ≡ true → area_at w r ≡ area_at v r
  alike_area r u = rw (A.terms, alike_rings r u)

  -- ---- polygons

  same_within : (q r : ℕ) → S q → S r → within_polygon w q r ≡ within_polygon v q r
  same_within q r a b = rw (alike_area q a, alike_area r b)

  pub alike_outer : (r : ℕ) → stands_at v.row_slot r ≡ true → outer_at w r ≡ outer_at v r
  unfolding outer_at
  alike_outer r u =
      let mine : List ℕ = keep (λ q. eqb (group_at v q) (group_at v r)) (lowest_rows v) in
      let theirs : keep (λ q. eqb (group_at w q) (group_at w r)) (lowest_rows w) ≡ mine =
      ap (keep (λ q. eqb (group_at w q) (group_at w r))) alike_lowest
      ∙ keep_cong S (λ q. eqb (group_at w q) (group_at w r)) (λ q. eqb (group_at v q) (group_at v r)) (λ q a. A.groups q r a u) (lowest_rows v) lowest_stand in
      ap (λ (l : List ℕ). head_or r (sort_by (within_polygon w) l)) theirs
      ∙ ap (head_or r) (sort_cong S (within_polygon w) (within_polygon v) same_within mine (all_keep S (λ q. eqb (group_at v q) (group_at v r)) (lowest_rows v) lowest_stand))

  outer_stands : (r : ℕ) → S r → S (outer_at v r)
  unfolding outer_at
  outer_stands r u =
      let mine : List ℕ = keep (λ q. eqb (group_at v q) (group_at v r)) (lowest_rows v) in
      all_head S r (sort_by (within_polygon v) mine) u (all_sort S (within_polygon v) mine (all_keep S (λ q. eqb (group_at v q) (group_at v r)) (lowest_rows v) lowest_stand))

  same_order : (q r : ℕ) → S q → S r → ring_order w q r ≡ ring_order v q r
  same_order q r a b =
      rw (alike_outer q a, alike_outer r b, alike_area (outer_at v q) (outer_stands q a), alike_area (outer_at v r) (outer_stands r b), same_within q r a b)

  -- ---- what is written

  pub alike_ordered : ordered w ≡ ordered v
  unfolding ordered
  alike_ordered = ap (sort_by (ring_order w)) alike_lowest ∙ sort_cong S (ring_order w) (ring_order v) same_order (lowest_rows v) lowest_stand

  ordered_stand : All S (ordered v)
  unfolding ordered
  ordered_stand = all_sort S (ring_order v) (lowest_rows v) lowest_stand

  pub alike_sizes : sizes w (ordered w) ≡ sizes v (ordered v)
  alike_sizes = ap (sizes w) alike_ordered ∙ map_cong S (λ r. length (ring_at w r)) (λ r. length (ring_at v r)) (λ r u. ap length (alike_rings r u)) (ordered v) ordered_stand

  pub alike_areas : map (area_at w) (ordered w) ≡ map (area_at v) (ordered v)
  alike_areas = ap (map (area_at w)) alike_ordered ∙ map_cong S (area_at w) (area_at v) alike_area (ordered v) ordered_stand

  same_starts : (k : ℕ) (l : List ℕ) → All S l → starts w k l ≡ starts v k l
  unfolding starts
  same_starts k [] a = refl
  same_starts k (r ∷ l) a = ap (λ (j : ℕ). k ∷ starts w j l) (ap (λ (x : List ℕ). k + length x) (alike_rings r a.0)) ∙ ap (λ (x : List ℕ). k ∷ x) (same_starts (k + length (ring_at v r)) l a.1)

  pub alike_starts : starts w 0 (ordered w) ≡ starts v 0 (ordered v)
  alike_starts = ap (starts w 0) alike_ordered ∙ same_starts 0 (ordered v) ordered_stand

  same_edges : (l : List ℕ) → All S l → edge_rows w l ≡ edge_rows v l
  unfolding edge_rows
  same_edges [] a = refl
  same_edges (r ∷ l) a = rw (alike_rings r a.0, same_edges l a.1)

  pub alike_edges : edge_rows w (ordered w) ≡ edge_rows v (ordered v)
  alike_edges = ap (edge_rows w) alike_ordered ∙ same_edges (ordered v) ordered_stand

  pub alike_polygons : polygon_count w ≡ polygon_count v
  unfolding polygon_count
  alike_polygons = ap length (ap (keep (λ r. eqb (outer_at w r) r)) alike_lowest
      ∙ keep_cong S (λ r. eqb (outer_at w r) r) (λ r. eqb (outer_at v r) r) (λ r u. ap (λ (o : ℕ). eqb o r) (alike_outer r u)) (lowest_rows v) lowest_stand)

  -- ---- the answer

  head_stands : (l : List ℕ) → All S l → eqb (length l) 0 ≡ false → S (head_or 0 l)
  head_stands [] a e = absurd (clash refl e)
  head_stands (r ∷ l) a e = a.0

  ordered_length : length (ordered v) ≡ length (lowest_rows v)
  unfolding ordered
  ordered_length = sort_length (ring_order v) (lowest_rows v)

  some_same : eqb (length (lowest_rows v)) 0 ≡ false
      → found w ≡ found v
  some_same e =
      let first : area_at w (head_or 0 (ordered w)) ≡ area_at v (head_or 0 (ordered v)) =
      ap (λ (l : List ℕ). area_at w (head_or 0 l)) alike_ordered
      ∙ alike_area (head_or 0 (ordered v)) (head_stands (ordered v) ordered_stand (ap (λ (n : ℕ). eqb n 0) ordered_length ∙ e)) in
      λ i. Ok (Outline (alike_polygons i) (length (alike_lowest i)) (first i))

  pub alike_answer : eqb w.held 0 ≡ eqb v.held 0 → read_answer w ≡ read_answer v
  unfolding read_answer
  alike_answer e =
      ap (λ (b : Bool). answer b (eqb (length (lowest_rows w)) 0) (found w)) e
      ∙ ap (λ (l : List ℕ). answer (eqb v.held 0) (eqb (length l) 0) (found w)) alike_lowest
      ∙ ⊎_elim
      (λ (c : eqb (length (lowest_rows v)) 0 ≡ true). closed (eqb v.held 0) (eqb (length (lowest_rows v)) 0) c)
      (λ (c : eqb (length (lowest_rows v)) 0 ≡ false). ap (answer (eqb v.held 0) (eqb (length (lowest_rows v)) 0)) (some_same c))
      (either (eqb (length (lowest_rows v)) 0))
    where
      closed : (b c : Bool) → c ≡ true → answer b c (found w) ≡ answer b c (found v)
      closed b c e = ap (λ (d : Bool). answer b d (found w)) e ∙ sym (ap (λ (d : Bool). answer b d (found v)) e)
