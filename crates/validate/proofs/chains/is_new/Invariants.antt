-- The loop of `validate::chains::is_new`.
use Rattle.validate.specs.Chains.{number}
use Rattle.validate.proofs.Chaining.{Ahead}
use Rattle.validate.proofs.chains.is_new.Given as goal

abbrev pub invariant-loop-step : goal.invariant-loop-step
invariant-loop-step l = Ahead l.cells l.count l.x (number l.last)
