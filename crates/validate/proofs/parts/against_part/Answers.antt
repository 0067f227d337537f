-- `validate::parts::against_part` meets its contract.
-- Assumes nothing.
use mathlib.Core.Bool.{not}
use mathlib.Core.Path.{ap}
use Rattle.validate.proofs.Joining.{against_even, against_mixed}
use Rattle.validate.proofs.parts.against_part.Goals as goal

pub returns-then-not-mixed : goal.returns-then-not-mixed
returns-then-not-mixed c = against_even _ _ _ c.requires c.second_against-second.ensures (ap not c.if-not-mixed.true)

pub returns : goal.returns
returns c = against_mixed _ _ _ c.requires c.second_against-second.ensures (ap not c.if-not-mixed.false) c.nested_against-nested.ensures
