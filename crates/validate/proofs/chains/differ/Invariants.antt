-- The loop of `validate::chains::differ`.
use Rattle.validate.proofs.Chaining.{Joining}
use Rattle.validate.proofs.chains.differ.Given as goal

abbrev pub invariant-loop-i : goal.invariant-loop-i
invariant-loop-i l = Joining l.cells l.heads l.links l.initial.links l.i
