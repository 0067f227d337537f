-- The loop of `walk_timing::zone_walk`.
use lib.ListN.{length}
use Rattle.gosper.specs.Walking.{rest}
use Rattle.walk_timing.proofs.Mixing.{Mixing}
use Rattle.walk_timing.proofs.zone_walk.Given as goal

abbrev pub invariant-loop-walk : goal.invariant-loop-walk
invariant-loop-walk l = Mixing l.cell l.target l.walk l.edges

abbrev pub decreases-loop-walk : goal.decreases-loop-walk
decreases-loop-walk l = length (rest l.walk)
