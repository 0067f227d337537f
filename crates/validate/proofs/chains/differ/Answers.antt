-- `validate::chains::differ` meets its contract.
-- Assumes nothing.
use mathlib.Core.Bool.{not}
use mathlib.Core.Path.{ap}
use Rattle.validate.proofs.Chaining.{joining_more}
use Rattle.validate.proofs.chains.differ.Goals as goal

pub loop-i-preserved : goal.loop-i-preserved
loop-i-preserved c = joining_more c.requires c.loop-i.invariant c.loop-i-test.true c.is_new.ensures (ap not c.if-not-is_new.false) c.link.ensures
