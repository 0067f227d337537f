-- `taking::lookup::unmark_rows` meets its contract. The marks from the i-th stored row on are still to be cleared.
-- Assumes nothing.
use Rattle.taking.proofs.Marking.{clearing_done}
use Rattle.taking.proofs.lookup.unmark_rows.Goals as goal

pub returns : goal.returns
returns c = clearing_done c.requires c.loop-row.invariant c.loop-row-test.false
