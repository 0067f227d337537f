-- A pair of slots leaves the pool.
-- Assumes nothing.
use Rattle.std.specs.Prelude.{◌≡◌, ℕ, ◌<◌, ◌^◌, length}
use Rattle.scope.specs.Lists.{at}
use Rattle.scope.specs.Memory.{Memory, slots, slot_of}
use Rattle.scope.specs.UnionFind.{uniting}
use Rattle.scope.proofs.Halving.{Forest}
use Rattle.pair_links.specs.Links.{pair_next, pair_prev, clear_two, Closed}

-- Both rows have slots, which are in the pool, and the slots' cells are held. The rest are sizes that fit.
pub record PairAsks (m : Memory) (n row back : ℕ) : Type 0 where
  pub row_in : row < length m.row_slot
  pub back_in : back < length m.row_slot
  pub row_has : 0 < at m.row_slot row
  pub back_has : 0 < at m.row_slot back
  pub row_slot : slot_of m row < slots m
  pub back_slot : slot_of m back < slots m
  pub row_cell : at m.slot_cell (slot_of m row) < n
  pub back_cell : at m.slot_cell (slot_of m back) < n
  pub forest : Forest m.parent m.rank n
  pub closed : Closed m.prev m.next
  pub even_cell : length m.slot_cell ≡ slots m
  pub even_next : length m.next ≡ slots m
  pub cells_fit : n < 2 ^ 32

-- The cells of the two slots are united, in this order, the slots leave their rings, and are free again.
pub record PairCancelled (m : Memory) (n row back : ℕ) (m' : Memory) : Type 0 where
  pub united : record { parents = m'.parent; ranks = m'.rank }
      ≡ uniting m.parent m.rank (at m.slot_cell (slot_of m row)) (at m.slot_cell (slot_of m back))
  pub forest : Forest m'.parent m'.rank n
  pub long_parent : length m'.parent ≡ length m.parent
  pub long_rank : length m'.rank ≡ length m.rank
  pub slot_row : m'.slot_row ≡ clear_two m.slot_row (slot_of m row) (slot_of m back)
  pub slot_cell : m'.slot_cell ≡ clear_two m.slot_cell (slot_of m row) (slot_of m back)
  pub prev : m'.prev ≡ clear_two (pair_prev m.next m.prev (slot_of m row) (slot_of m back)) (slot_of m row) (slot_of m back)
  pub next : m'.next ≡ clear_two (pair_next m.next m.prev (slot_of m row) (slot_of m back)) (slot_of m row) (slot_of m back)
  pub row_slot : m'.row_slot ≡ clear_two m.row_slot row back
