-- `audit::summary/put_refusals` meets its contract. The lines of the first numbers are written.
-- Assumes nothing.
use Rattle.text.proofs.Writing.{runs_none, runs_next}
use Rattle.audit.proofs.summary.put_refusals.Goals as goal

pub loop-i-init : goal.loop-i-init
loop-i-init c = runs_none _ _ _ _ c.requires

pub loop-i-preserved : goal.loop-i-preserved
loop-i-preserved c = runs_next c.loop-i.invariant c.loop-i-test.true c.put_refused-place.ensures
