-- The order of the rings is unique: `ring_order` is an order that decides between any two rows, so that `ordered v` is the one list
-- with the rings of the state in which each may stand before the next.
-- Assumes nothing.
use Prim.Native.Nat.{ℕ}
use mathlib.Core.Path.{◌≡◌}
use mathlib.Core.Bool.{true, false}
use mathlib.Core.List.{List}
use Rattle.scope.specs.Area.{area_le}
use Rattle.scope.specs.Order.{View, by, area_at, outer_at, within_polygon, polygon_order, ring_order, lowest_rows, ordered}
use Rattle.scope.proofs.Orders.{Order, Decides, order_by, order_descending, order_then_by, decides_then_by, order_leb, decides_leb}
use Rattle.scope.proofs.Sorted.{Perm, Ascends, sort_perm, sort_ascends, sort_unique}
use Rattle.scope.proofs.AreaOrder.{order_area}

module _ (v : View) where
  -- of a polygon's rings the one with the smaller area stands first
  pub smaller_first : (p q : ℕ) → area_le (area_at v p) (area_at v q) ≡ true → area_le (area_at v q) (area_at v p) ≡ false → within_polygon v p q ≡ true
  smaller_first p q s t = rw (s, t)

  pub order_within : Order (within_polygon v)
  order_within = order_then_by (order_by (area_at v) order_area) order_leb

  pub decides_within : Decides (within_polygon v)
  decides_within = decides_then_by (by (area_at v) area_le) decides_leb

  pub order_polygons : Order (polygon_order v)
  order_polygons = order_then_by (order_by (area_at v) (order_descending order_area)) order_leb

  pub order_rings : Order (ring_order v)
  order_rings = order_then_by (order_by (outer_at v) order_polygons) order_within

  pub decides_rings : Decides (ring_order v)
  decides_rings = decides_then_by (by (outer_at v) (polygon_order v)) decides_within

  -- ---- what the ring list's order is: all rings, each before the next, and no other list is so

  pub ordered_all : Perm (lowest_rows v) (ordered v)
  unfolding ordered
  ordered_all = sort_perm (ring_order v) (lowest_rows v)

  pub ordered_ascends : Ascends (ring_order v) (ordered v)
  unfolding ordered
  ordered_ascends = sort_ascends (ring_order v) order_rings (lowest_rows v)

  pub ordered_unique : (l : List ℕ) → Perm (lowest_rows v) l → Ascends (ring_order v) l → l ≡ ordered v
  unfolding ordered
  ordered_unique l p a = sort_unique (ring_order v) order_rings decides_rings (lowest_rows v) l p a
