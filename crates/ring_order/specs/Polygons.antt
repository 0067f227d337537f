-- Polygons by the numbers of their rings: n rings are numbered 0 to n − 1 by their lowest rows, ascending, and `area` and `group` hold the
-- area and the group of each. These are document 01's rules, as scope has them over lowest rows.
-- Assumes nothing.
use Rattle.std.specs.Prelude.{ℕ, List, eqb, Float, length}
use Rattle.scope.specs.Lists.{at, below, head_or, tabulate}
use Rattle.scope.specs.Order.{sort_by}
use Rattle.area_order.specs.Keys.{within_le}
use Rattle.ring_sort.specs.Keys.{sorted_rings}

-- The first ring of a group is the outer of its rings.
unfoldable pub outer_of : List Float → List ℕ → ℕ → ℕ → ℕ
outer_of area group n i = head_or i (sort_by (within_le area) (below (λ j. eqb (at group j) (at group i)) n))

abbrev pub outers_of : List Float → List ℕ → ℕ → List ℕ
outers_of area group n = tabulate (outer_of area group n) n

-- The rings in the order of the ring list.
unfoldable pub order_of : List Float → List ℕ → ℕ → List ℕ
order_of area group n = sorted_rings area (outers_of area group n) n

-- As many polygons as rings that are their own outers.
unfoldable pub polygons_of : List Float → List ℕ → ℕ → ℕ
polygons_of area group n = length (below (λ i. eqb (outer_of area group n i) i) n)
