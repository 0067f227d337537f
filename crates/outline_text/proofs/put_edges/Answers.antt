-- `outline_text::put_edges` meets its contract. The edges before the j-th are written.
-- Assumes nothing.
use Rattle.text.proofs.Writing.{runs_none, runs_next}
use Rattle.outline_text.proofs.put_edges.Goals as goal

pub loop-j-init : goal.loop-j-init
loop-j-init c = runs_none _ _ _ _ c.requires.0

pub loop-j-preserved : goal.loop-j-preserved
loop-j-preserved c = runs_next c.loop-j.invariant c.loop-j-test.true (rw (← c.at32.ensures.0) c.put_edge-place.ensures)
