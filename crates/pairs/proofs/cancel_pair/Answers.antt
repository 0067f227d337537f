-- `pairs::cancel_pair` meets its contract: union, merging and freeing in a row (Pairs), and the two slots are flagged (Freeing).
-- Assumes nothing.
use native.Mathlib.Omega.{arith}
use Prim.Native.Nat.{◌-◌, ◌<◌}
use lib.ListN.{length}
use Rattle.pair_links.specs.Links.{pool}
use Rattle.pairs.proofs.Pairs.{pair_done}
use Rattle.pairs.proofs.Freeing.{flags_cleared}
use Rattle.pairs.proofs.cancel_pair.Goals as goal

pub returns : goal.returns
returns c =
    let x_in : c.get32-x.result - 1 < length c.args.slot_row.now = omega (arith, c.get32-x.ensures.0, c.requires.0.row_slot) in
    let y_in : c.get32-y.result - 1 < length c.args.slot_row.now = omega (arith, c.get32-y.ensures.0, c.requires.0.back_slot) in (
      pair_done c.requires.0 c.get32-x.result c.get32-y.result c.get32-x.ensures.0 c.get32-y.ensures.0 c.get32-cell_x.result c.get32-cell_y.result c.get32-cell_x.ensures.0 c.get32-cell_y.ensures.0 c.merge_arcs.new.prev c.merge_arcs.new.next
          (pool c.union.new.parent c.union.new.rank c.free_pair.new.slot_row c.free_pair.new.slot_cell c.free_pair.new.prev c.free_pair.new.next c.free_pair.new.row_slot)
          c.union.auto.parent c.union.auto.rank
          c.union.ensures c.merge_arcs.ensures.0 c.merge_arcs.ensures.1 c.free_pair.ensures,
      flags_cleared c.requires.1 x_in y_in c.free_pair.ensures.slot_row c.vacate_two.ensures,
    )
