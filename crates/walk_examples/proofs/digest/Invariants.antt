-- The loop of `walk_examples::digest`.
use lib.ListN.{length}
use Rattle.gosper.specs.Walking.{rest}
use Rattle.walk_examples.proofs.Walked.{Summed}
use Rattle.walk_examples.proofs.digest.Given as goal

abbrev pub invariant-loop-walk : goal.invariant-loop-walk
invariant-loop-walk l = Summed l.cell l.target l.walk l.sum

abbrev pub decreases-loop-walk : goal.decreases-loop-walk
decreases-loop-walk l = length (rest l.walk)
