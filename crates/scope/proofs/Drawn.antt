-- WHAT IS DRAWN, worked out afresh from a table and a list of cells: the ring list, the edge list and the answer of document 01, "Area and
-- order", with no state. A ring is named by its lowest row. Written shows that dissolve and read out answer and write this.
--     ring_from, area_from, group_from     a ring, its area, its group
--     outer_from, drawn                  the outer of a ring's polygon; the rings in the order of the ring list
--     drawn_rings, drawn_output           the same as lists of rows; what is written of them
--     drawn_answer                       nothing, closed, or outline
--     drawn_rings_lem                       the rings drawn are `rings t cs`, each once
--     nothing_exactly, closed_exactly   when each is answered
-- Assumes nothing.
use Prim.Native.Nat.{ℕ, ◌+◌}
use mathlib.Core.Path.{◌≡◌, refl, ap}
use mathlib.Core.Logic.{◌↔◌, ◌≢◌}
use mathlib.Core.Bool.{Bool, true, false, cond}
use mathlib.Core.List.{List, [], ◌∷◌, ◌++◌, map}
use native.Mathlib.Omega.{arith}
use borrow.Author.Tests.{eq-eqb, eqb-true, eqb-false, ne_eqb}
use lib.Dec.{eqb, leb}
use lib.Ieee.{Float, nan}
use lib.ListN.{length, get_or}
use Rattle.std.specs.Prelude.{Ok}
use Rattle.scope.specs.declared.ReadOut.TheVariants.{Nothing, Closed, Outline}
use Rattle.scope.specs.Lists.{keep, head_or}
use Rattle.scope.specs.Answers.{kind_of, Answer}
use Rattle.scope.specs.Table.{Table, row_count}
use Rattle.scope.specs.Afresh.{successor, standing_rows, ring, rings}
use Rattle.scope.specs.Memory.{Output}
use Rattle.scope.specs.Area.{area_of, area_le}
use Rattle.scope.specs.Order.{then_by, by, descending, sort_by}
use Rattle.scope.specs.Calls.{over}
use Rattle.scope.proofs.Sorted.{Perm, sort_perm}
use Rattle.scope.proofs.Perms.{perm_map}
use Rattle.scope.proofs.Agree.{starts}
use Rattle.scope.proofs.Counts.{ring_group, polygons}

-- ---- rings, polygons and their order

-- A ring adds its rows' terms from its lowest row on.
abbrev pub ring_area : Table → List ℕ → Float
ring_area t l = area_of (map (λ x. get_or t.area x nan) l)

module _ (t : Table) (cs : List ℕ) where
  abbrev pub ring_from : ℕ → List ℕ
  ring_from r = ring (row_count t) (successor t cs) r

  abbrev pub area_from : ℕ → Float
  area_from r = ring_area t (ring_from r)

  -- A ring is in the group of its lowest row's cell.
  abbrev pub group_from : ℕ → ℕ
  group_from r = ring_group t cs (ring_from r)

  -- Rings by area ascending, ties by lowest row.
  abbrev pub by_area : ℕ → ℕ → Bool
  by_area = then_by (by area_from area_le) leb

  -- Each group with a ring is one polygon; the first ring is the outer.
  unfoldable pub outer_from : ℕ → ℕ
  outer_from r = head_or r (sort_by by_area (keep (λ q. eqb (group_from q) (group_from r)) (starts t cs)))

  -- Polygons: outer area descending, ties by lowest row of the outer.
  abbrev pub drawn_before : ℕ → ℕ → Bool
  drawn_before = then_by (by outer_from (then_by (by area_from (descending area_le)) leb)) by_area

  unfoldable pub drawn : List ℕ
  drawn = sort_by drawn_before (starts t cs)

  abbrev pub drawn_rings : List (List ℕ)
  drawn_rings = map ring_from drawn

-- ---- what is written of rings, and what is answered

-- Start is a place in the edge list: where the rings before it end.
unfoldable pub starts_from : ℕ → List (List ℕ) → List ℕ
starts_from k [] = []
starts_from k (l ∷ ls) = k ∷ starts_from (k + length l) ls

-- The edge list holds the rings' rows, ring by ring.
unfoldable pub laid : List (List ℕ) → List ℕ
laid [] = []
laid (l ∷ ls) = l ++ laid ls

abbrev pub drawn_output : Table → List ℕ → Output → Output
drawn_output t cs o = record {
  start = over (starts_from 0 (drawn_rings t cs)) o.start;
  size = over (map length (drawn_rings t cs)) o.size;
  group = over (map (ring_group t cs) (drawn_rings t cs)) o.group;
  area = over (map (ring_area t) (drawn_rings t cs)) o.area;
  edges = over (laid (drawn_rings t cs)) o.edges;
}

-- Nothing (no cells), closed (cells, but no edge stands), or outline with polygon count, ring count and the first outer area.
unfoldable pub drawn_answer : Table → List ℕ → Answer
drawn_answer t cs =
    let some = Ok (Outline (length (polygons t cs)) (length (rings t cs)) (area_from t cs (head_or 0 (drawn t cs)))) in
    cond (eqb (length cs) 0) (Ok Nothing) (cond (eqb (length (standing_rows t cs)) 0) (Ok Closed) some)

-- ---- the rings drawn

pub drawn_rings_lem : (t : Table) (cs : List ℕ) → Perm (rings t cs) (drawn_rings t cs)
unfolding rings drawn
drawn_rings_lem t cs = perm_map (ring_from t cs) (sort_perm (drawn_before t cs) (starts t cs))

-- ---- nothing, closed

-- NOTHING exactly where there is no cell; CLOSED exactly where there are cells and no row stands
module _ (t : Table) (cs : List ℕ) where
  abbrev answer : Bool → Bool → Answer
  answer a b = cond a (Ok Nothing) (cond b (Ok Closed) (Ok (Outline (length (polygons t cs)) (length (rings t cs)) (area_from t cs (head_or 0 (drawn t cs))))))

  pub nothing_exactly : (drawn_answer t cs ≡ (Ok Nothing)) ↔ (length cs ≡ 0)
  unfolding drawn_answer kind_of
  nothing_exactly = (λ e. eqb-true (length cs) 0 (go (eqb (length cs) 0) (eqb (length (standing_rows t cs)) 0) (ap kind_of e)), λ z. rw (eq-eqb (length cs) 0 z))
    where
      go : (a b : Bool) → kind_of (answer a b) ≡ 0 → a ≡ true
      go true b e = refl
      go false true e = absurd (omega arith)
      go false false e = absurd (omega arith)

  pub closed_exactly : (drawn_answer t cs ≡ (Ok Closed)) ↔ ((length cs ≢ 0) × (length (standing_rows t cs) ≡ 0))
  unfolding drawn_answer kind_of
  closed_exactly = (
    λ e. let z = go (eqb (length cs) 0) (eqb (length (standing_rows t cs)) 0) (ap kind_of e) in (eqb-false (length cs) 0 z.0, eqb-true (length (standing_rows t cs)) 0 z.1),
    λ z. rw (ne_eqb (length cs) 0 z.0, eq-eqb (length (standing_rows t cs)) 0 z.1),
  )
    where
      go : (a b : Bool) → kind_of (answer a b) ≡ 1 → (a ≡ false) × (b ≡ true)
      go true b e = absurd (omega arith)
      go false true e = (refl, refl)
      go false false e = absurd (omega arith)
