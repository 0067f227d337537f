-- `slot_rules::slots_kept` meets its contract.
-- Assumes nothing.
use Rattle.slot_rules.proofs.Sweeps.{sweeping_more, sweeping_done}
use Rattle.slot_rules.proofs.slots_kept.Goals as goal

pub loop-slot-preserved : goal.loop-slot-preserved
loop-slot-preserved c = rw c.slot_kept-kept.ensures (sweeping_more c.loop-slot.invariant c.loop-slot-test.true)

pub returns : goal.returns
returns c = sweeping_done c.loop-slot.invariant c.loop-slot-test.false
