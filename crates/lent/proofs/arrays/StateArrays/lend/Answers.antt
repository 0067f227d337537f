-- `lent::arrays::StateArrays::lend` meets its contract: the first rows, slots and places of cleared arrays. Assumes nothing.
use mathlib.Core.Path.{◌∙◌}
use Rattle.lent.proofs.Fronts.{first_columns}
use Rattle.lent.proofs.arrays.StateArrays.lend.Goals as goal

pub returns : goal.returns
returns g c = c.lend_again.ensures.holds ∙ first_columns c.requires.new c.requires.few
