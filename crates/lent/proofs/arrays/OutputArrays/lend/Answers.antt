-- `lent::arrays::OutputArrays::lend` meets its contract: the first places of cleared arrays. Assumes nothing.
use Rattle.lent.proofs.Fronts.{first_outputs}
use Rattle.lent.proofs.arrays.OutputArrays.lend.Goals as goal

pub returns : goal.returns
returns g c = first_outputs c.args.rings c.args.edges c.requires.new c.requires.few.0 c.requires.few.1
