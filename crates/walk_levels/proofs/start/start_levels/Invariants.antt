-- The loop of `walk_levels::start::start_levels`: the invariant is its promise, at the level reached.
use Rattle.walk_levels.specs.Starts.{Starts}
use Rattle.walk_levels.proofs.start.start_levels.Given as goal

abbrev pub invariant-loop-reached : goal.invariant-loop-reached
invariant-loop-reached l = Starts l.positions l.start.cell l.start.parent l.reached l.start.past l.scratchpad
