-- The loop of `arcs::cancel::cancel_rows`.
use mathlib.Core.Path.{◌≡◌}
use lib.ListN.{length}
use Rattle.free_slots.specs.Search.{Flags}
use Rattle.pair_links.specs.Links.{pool}
use Rattle.arcs.specs.CancelRows.{reverses}
use Rattle.arcs.proofs.RowsMet.{Meeting}
use Rattle.arcs.proofs.cancel.cancel_rows.Given as goal

abbrev pub invariant-loop-row : goal.invariant-loop-row
invariant-loop-row l =
    Meeting (reverses l.reverse) (pool l.initial.parent l.initial.rank l.initial.slot_row l.initial.slot_cell l.initial.prev l.initial.next l.initial.row_slot) l.held l.rows l.row-index l.pairs (pool l.parent l.rank l.slot_row l.slot_cell l.prev l.next l.row_slot) × Flags l.vacant l.slot_row × (length l.vacant ≡ length l.initial.vacant)
