-- `arcs::cancel::cancel_rows` meets its contract: each turn is that of RowsMet.
-- Assumes nothing.
use mathlib.Core.Path.{refl, ◌∙◌}
use Rattle.arcs.proofs.RowsMet.{meeting_start, row_asks, meeting_turn, meeting_end}
use Rattle.arcs.proofs.cancel.cancel_rows.Goals as goal

pub loop-row-init : goal.loop-row-init
loop-row-init c = (meeting_start c.requires.0, c.requires.1, refl)

pub cancel_row-pairs-requires : goal.cancel_row-pairs-requires
cancel_row-pairs-requires c =
    (row_asks c.requires.0 c.loop-row.invariant.0 c.loop-row-test.true refl, c.loop-row.invariant.1)

pub loop-row-preserved : goal.loop-row-preserved
loop-row-preserved c =
    (meeting_turn c.requires.0 c.loop-row.invariant.0 c.loop-row-test.true refl c.cancel_row-pairs.ensures.0, c.cancel_row-pairs.ensures.1, c.cancel_row-pairs.auto.vacant ∙ c.loop-row.invariant.2)

pub returns : goal.returns
returns c = (meeting_end c.requires.0 c.loop-row.invariant.0 c.loop-row-test.false, c.loop-row.invariant.1)
