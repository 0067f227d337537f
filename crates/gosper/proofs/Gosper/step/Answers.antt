-- `gosper::step` meets its contract.
-- Assumes nothing.
use mathlib.Core.Path.{ap}
use native.Mathlib.Omega.{arith}
use Rattle.gosper.specs.declared.Gosper.{Gosper}
use Rattle.gosper.proofs.Rests.{some_left, step_steps}
use Rattle.gosper.proofs.Gosper.step.Goals as goal

pub overflow_sub-self : goal.overflow_sub-self
overflow_sub-self c = let e = ap (λ (g : Gosper). g.count) c.go_on-self.ensures in
    omega (arith, e, some_left c.args.self c.requires.0 c.requires.1)

pub returns : goal.returns
returns c =
    step_steps c.args.self c.requires.0 c.requires.1 c.go_on-self.ensures
