-- `text::put_shown` meets its contract. The bytes before place i are written as they are shown.
-- Assumes nothing.
use Rattle.text.proofs.Names.{shows_next, shows_all}
use Rattle.text.proofs.put_shown.Goals as goal

pub loop-b-preserved : goal.loop-b-preserved
loop-b-preserved c = shows_next c.args.name.now c.loop-b.invariant c.loop-b-test.true c.shown_byte.ensures c.put-place.ensures

pub returns : goal.returns
returns c = shows_all c.args.name.now c.loop-b.invariant c.loop-b-test.false
