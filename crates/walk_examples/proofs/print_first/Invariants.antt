-- The loop of `walk_examples::print_first`.
use Rattle.gosper.specs.Walking.{Walking}
use Rattle.walk_examples.proofs.print_first.Given as goal

abbrev pub invariant-loop : goal.invariant-loop
invariant-loop l = Walking l.walk
