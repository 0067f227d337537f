-- `outline_text::put_rings` meets its contract. The rings before the i-th are written.
-- Assumes nothing.
use Rattle.text.proofs.Writing.{runs_none, runs_next}
use Rattle.outline_text.proofs.put_rings.Goals as goal

pub loop-i-init : goal.loop-i-init
loop-i-init c = runs_none _ _ _ _ c.requires

pub loop-i-preserved : goal.loop-i-preserved
loop-i-preserved c = runs_next c.loop-i.invariant c.loop-i-test.true c.put_ring-place.ensures
