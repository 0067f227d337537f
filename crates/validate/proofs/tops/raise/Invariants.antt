-- The loop of `validate::tops::raise`.
use Rattle.validate.proofs.Raising.{Raising}
use Rattle.validate.proofs.tops.raise.Given as goal

abbrev pub invariant-loop-p : goal.invariant-loop-p
invariant-loop-p l = Raising l.part l.initial.order l.order l.p l.top
