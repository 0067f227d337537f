-- `validate::chains::is_new` meets its contract.
-- Assumes nothing.
use Rattle.validate.proofs.Chaining.{ahead_first, ahead_more}
use Rattle.validate.proofs.chains.is_new.Goals as goal

pub loop-step-init : goal.loop-step-init
loop-step-init c = rw c.seat.ensures.0 (ahead_first c.args.heads.now c.args.links.now c.requires.chained)

pub loop-step-preserved : goal.loop-step-preserved
loop-step-preserved c = ahead_more c.args.heads.now c.args.links.now c.requires.chained c.in-Some.before (rw c.in-Some.is at c.loop-step.invariant) c.if-cells-before.false
