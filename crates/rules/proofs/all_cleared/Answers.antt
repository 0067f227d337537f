-- `rules::all_cleared` meets its contract.
-- Assumes nothing.
use Rattle.slot_rules.proofs.Sweeps.{sweeping_more, sweeping_done}
use Rattle.rules.proofs.all_cleared.Goals as goal

pub loop-mark-preserved : goal.loop-mark-preserved
loop-mark-preserved c = sweeping_more c.loop-mark.invariant c.loop-mark-test.true

pub returns : goal.returns
returns c = sweeping_done c.loop-mark.invariant c.loop-mark-test.false
