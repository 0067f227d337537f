-- The loop of `arguments::read_line`. The line is what the words so far come to.
-- Assumes nothing.
use Rattle.arguments.proofs.Words.{Read}
use Rattle.arguments.proofs.read_line.Given as goal

abbrev pub invariant-loop-k : goal.invariant-loop-k
invariant-loop-k g l = Read l.tool l.line l.k
