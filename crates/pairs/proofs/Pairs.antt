-- The steps of `cancel_pair` in a row: what each asks, and what all of them leave.
-- Assumes nothing.
use mathlib.Core.Path.{◌≡◌, ◌∙◌, ap}
use mathlib.Core.List.{List, []}
use Prim.Native.Nat.{ℕ, ◌-◌, ◌<◌}
use lib.ListN.{length}
use Rattle.scope.specs.Lists.{at}
use Rattle.scope.specs.Memory.{Memory, slot_of}
use Rattle.union_find.specs.Asked.{UnionAsks, Joined}
use Rattle.pair_links.specs.Links.{pair_next, pair_prev, Closed, pool, FreeAsks, Freed}
use Rattle.pairs.specs.Cancel.{PairAsks, PairCancelled}

module _ {m : Memory} {n row back : ℕ} (A : PairAsks m n row back) (a b : ℕ) (ea : a ≡ at m.row_slot row) (eb : b ≡ at m.row_slot back) where
  x_is : a - 1 ≡ slot_of m row
  x_is = ap (λ (k : ℕ). k - 1) ea

  y_is : b - 1 ≡ slot_of m back
  y_is = ap (λ (k : ℕ). k - 1) eb

  pub merge_asks : Closed m.prev m.next × (a - 1 < length m.next) × (b - 1 < length m.next)
  merge_asks = rw (x_is, y_is, A.even_next) (A.closed, A.row_slot, A.back_slot)

  pub free_asks : (p q : List ℕ) → length p ≡ length m.prev → length q ≡ length m.next
      → FreeAsks (pool [] [] m.slot_row m.slot_cell p q m.row_slot) (a - 1) (b - 1) row back
  free_asks p q lp lq = record {
    x_in = rw x_is A.row_slot;
    y_in = rw y_is A.back_slot;
    row_in = A.row_in;
    back_in = A.back_in;
    even_cell = A.even_cell;
    even_prev = lp ∙ A.closed.even ∙ A.even_next;
    even_next = lq ∙ A.even_next;
  }

  module _ (cx cy : ℕ) (ex : cx ≡ at m.slot_cell (a - 1)) (ey : cy ≡ at m.slot_cell (b - 1)) where
    cx_is : cx ≡ at m.slot_cell (slot_of m row)
    cx_is = ex ∙ ap (at m.slot_cell) x_is

    cy_is : cy ≡ at m.slot_cell (slot_of m back)
    cy_is = ey ∙ ap (at m.slot_cell) y_is

    pub union_asks : UnionAsks m.parent m.rank n cx cy
    union_asks = record { forest = A.forest; a_held = rw cx_is A.row_cell; b_held = rw cy_is A.back_cell; fits = A.cells_fit }

    pub pair_done : (p q : List ℕ) (m' : Memory) → length m'.parent ≡ length m.parent → length m'.rank ≡ length m.rank
        → Joined m.parent m.rank n cx cy m'.parent m'.rank
        → q ≡ pair_next m.next m.prev (a - 1) (b - 1) → p ≡ pair_prev m.next m.prev (a - 1) (b - 1)
        → Freed (pool [] [] m.slot_row m.slot_cell p q m.row_slot) (a - 1) (b - 1) row back
        (pool [] [] m'.slot_row m'.slot_cell m'.prev m'.next m'.row_slot) → PairCancelled m n row back m'
    pair_done p q m' lp lr J eq ep F = record {
      united = J.left ∙ rw (cx_is, cy_is);
      forest = J.keeps;
      long_parent = lp;
      long_rank = lr;
      slot_row = F.slot_row ∙ rw (x_is, y_is);
      slot_cell = F.slot_cell ∙ rw (x_is, y_is);
      prev = F.prev ∙ rw (ep, x_is, y_is);
      next = F.next ∙ rw (eq, x_is, y_is);
      row_slot = F.row_slot;
    }
