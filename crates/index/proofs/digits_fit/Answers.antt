-- `index::digits_fit` meets its contract. One comparison is the fifteen tests.
-- Assumes nothing.
use Rattle.index.proofs.Digits.{digits_fit}
use Rattle.index.proofs.digits_fit.Goals as goal

pub returns : goal.returns
returns c = rw c.resolution.ensures (digits_fit c.args.x)
