-- Document 01, "Area and order": rings, polygons, the ring list and the edge list of a state. A ring is named by its lowest row.
-- Assumes nothing.
use Rattle.std.specs.Prelude.{ℕ, zero, suc, ◌+◌, ◌-◌, Bool, true, false, not, cond, eqb, leb, Float, length, get_or, Ok}
use mathlib.Core.List.{List, [], ◌∷◌, ◌++◌, map}
use Rattle.std.specs.Float.{nan}
use Rattle.scope.specs.Answers.{Answer}
use Rattle.scope.specs.declared.ReadOut.TheVariants.{Nothing, Closed, Outline}
use Rattle.scope.specs.Lists.{at, first_bad, below, keep, head_or}
use Rattle.scope.specs.Table.{Table}
use Rattle.scope.specs.Memory.{Memory, held}
use Rattle.scope.specs.Afresh.{ring, starts_ring, ring_starts}
use Rattle.scope.specs.UnionFind.{root_of}
use Rattle.scope.specs.Area.{area_of, area_le}

-- ---- sorting by a test: le x y says that x may stand before y

module _ {A : Type 0} where
  -- by the first; where it has them equal, by the second
  abbrev pub then_by : (A → A → Bool) → (A → A → Bool) → A → A → Bool
  then_by p q x y = cond (p x y) (cond (p y x) (q x y) true) false

  abbrev pub descending : (A → A → Bool) → A → A → Bool
  descending p x y = p y x

  abbrev pub by : {B : Type 0} → (B → A) → (A → A → Bool) → B → B → Bool
  by f p x y = p (f x) (f y)

module _ {A : Type 0} (le : A → A → Bool) where
  unfoldable pub insert : A → List A → List A
  insert x [] = x ∷ []
  insert x (a ∷ l) = let r = a ∷ insert x l in cond (le x a) (x ∷ a ∷ l) r

  -- l in the order le
  unfoldable pub sort_by : List A → List A
  unfolding insert
  sort_by [] = []
  sort_by (a ∷ l) = insert a (sort_by l)

-- ---- what read out reads of a state: its used slots, next links and parents

pub record View : Type 0 where
  pub row_slot : List ℕ
  pub slot_row : List ℕ
  pub slot_cell : List ℕ
  pub next : List ℕ
  pub parent : List ℕ
  pub held : ℕ
  pub terms : List Float

abbrev pub view : Table → Memory → View
view t m = record {
  row_slot = m.row_slot;
  slot_row = m.slot_row;
  slot_cell = m.slot_cell;
  next = m.next;
  parent = m.parent;
  held = held m;
  terms = t.area;
}

-- ---- rings

abbrev pub stands_at : List ℕ → ℕ → Bool
stands_at row_slot r = not (eqb (at row_slot r) 0)

-- row to row: the row in the next slot of the row's slot
abbrev pub next_row : List ℕ → List ℕ → List ℕ → ℕ → ℕ
next_row row_slot slot_row next r = at slot_row (at next (at row_slot r - 1)) - 1

abbrev pub ring_at : View → ℕ → List ℕ
ring_at v r = ring (length v.row_slot) (next_row v.row_slot v.slot_row v.next) r

abbrev pub lowest_rows : View → List ℕ
lowest_rows v = ring_starts (length v.row_slot) (stands_at v.row_slot) (next_row v.row_slot v.slot_row v.next)

-- A ring adds its rows' terms from its lowest row on.
abbrev pub area_at : View → ℕ → Float
area_at v r = area_of (map (λ x. get_or v.terms x nan) (ring_at v r))

-- ---- groups

-- A group is written as the lowest place among its held cells.
unfoldable pub group_of : List ℕ → ℕ → ℕ → ℕ
group_of parent n c = first_bad (λ p. not (eqb (root_of parent p) (root_of parent c))) n

-- A ring is in the group of its lowest row's cell.
abbrev pub group_at : View → ℕ → ℕ
group_at v r = group_of v.parent v.held (at v.slot_cell (at v.row_slot r - 1))

-- ---- polygons

-- Rings by area ascending, ties by lowest row.
abbrev pub within_polygon : View → ℕ → ℕ → Bool
within_polygon v = then_by (by (area_at v) area_le) leb

-- Each group with a ring is one polygon; the first ring is the outer. The outer of a ring's polygon:
unfoldable pub outer_at : View → ℕ → ℕ
outer_at v r = head_or r (sort_by (within_polygon v) (keep (λ q. eqb (group_at v q) (group_at v r)) (lowest_rows v)))

-- Polygons: outer area descending, ties by lowest row of the outer.
abbrev pub polygon_order : View → ℕ → ℕ → Bool
polygon_order v = then_by (by (area_at v) (descending area_le)) leb

abbrev pub ring_order : View → ℕ → ℕ → Bool
ring_order v = then_by (by (outer_at v) (polygon_order v)) (within_polygon v)

-- The rings in the order of the ring list.
unfoldable pub ordered : View → List ℕ
ordered v = sort_by (ring_order v) (lowest_rows v)

-- As many polygons as rings that are their polygon's outer.
unfoldable pub polygon_count : View → ℕ
polygon_count v = length (keep (λ r. eqb (outer_at v r) r) (lowest_rows v))

-- ---- what is written

-- Records: start, length, group, area. Start is a place in the edge list.
unfoldable pub starts : View → ℕ → List ℕ → List ℕ
starts v k [] = []
starts v k (r ∷ l) = k ∷ starts v (k + length (ring_at v r)) l

abbrev pub sizes : View → List ℕ → List ℕ
sizes v l = map (λ r. length (ring_at v r)) l

-- The edge list holds row numbers, rings in the order of the ring list, each from its lowest row.
unfoldable pub edge_rows : View → List ℕ → List ℕ
edge_rows v [] = []
edge_rows v (r ∷ l) = ring_at v r ++ edge_rows v l

-- Read out answers: nothing (no cells), closed (cells, but no edge stands), or outline with polygon count, ring count and the first outer area.
unfoldable pub read_answer : View → Answer
read_answer v =
    let rs = lowest_rows v in
    let some = Ok (Outline (polygon_count v) (length rs) (area_at v (head_or 0 (ordered v)))) in
    cond (eqb v.held 0) (Ok Nothing) (cond (eqb (length rs) 0) (Ok Closed) some)
