-- `arguments::read_line` meets its contract. The line is what the words so far come to.
-- Assumes nothing.
use Rattle.arguments.proofs.Words.{read_none, read_next, read_all}
use Rattle.arguments.proofs.read_line.Goals as goal

pub loop-k-init : goal.loop-k-init
loop-k-init g c = read_none c.new-line.ensures

pub loop-k-preserved : goal.loop-k-preserved
loop-k-preserved g c = read_next c.loop-k.invariant c.take_argument-line.ensures

pub returns : goal.returns
returns g c = read_all c.loop-k.invariant
