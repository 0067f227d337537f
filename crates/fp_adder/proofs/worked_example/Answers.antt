-- `fp_adder::worked_example` meets its contract. The calls in a row, and what the definitions compute.
-- Assumes nothing.
use mathlib.Core.Path.{◌∙◌, ap}
use Rattle.scope.specs.Area.{Adder, added, value_of}
use Rattle.scope.proofs.Adding.{one, half_ulp, adds_exactly}
use Rattle.fp_adder.proofs.worked_example.Goals as goal

pub returns : goal.returns
returns c = c.from.ensures ∙ ap value_of (c.add-2.ensures ∙ ap (λ (a : Adder). added a half_ulp) (c.add.ensures ∙ ap (λ (a : Adder). added a one) c.new.ensures)) ∙ adds_exactly
