-- `arcs::add_edges` meets its contract: its three steps in a row (Adding).
-- Assumes nothing.
use Rattle.pair_links.specs.Links.{pool}
use Rattle.arcs.proofs.Adding.{hold_asks, outline_asks, cancel_asks, added}
use Rattle.arcs.proofs.add_edges.Goals as goal

pub hold_cell-place-requires : goal.hold_cell-place-requires
hold_cell-place-requires c = hold_asks c.requires

pub place_outline-requires : goal.place_outline-requires
place_outline-requires c =
    outline_asks c.requires c.hold_cell-place.ensures.place_is

pub cancel_rows-requires : goal.cancel_rows-requires
cancel_rows-requires c =
    (cancel_asks c.requires c.hold_cell-place.ensures c.place_outline.ensures, c.place_outline.ensures.flags)

pub returns-clause-added : goal.returns-clause-added
returns-clause-added c =
    added c.requires c.hold_cell-place.ensures c.place_outline.ensures
    (pool c.cancel_rows.new.parent c.cancel_rows.new.rank c.cancel_rows.new.slot_row c.cancel_rows.new.slot_cell c.cancel_rows.new.prev c.cancel_rows.new.next c.cancel_rows.new.row_slot)
    c.cancel_rows.ensures.0 c.cancel_rows.ensures.1
