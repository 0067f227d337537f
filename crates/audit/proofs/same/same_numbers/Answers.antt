-- `audit::same::same_numbers` meets its contract.
-- Assumes nothing.
use Rattle.audit.proofs.Equal.{numbers_decided}
use Rattle.audit.proofs.same.same_numbers.Goals as goal

pub returns : goal.returns
returns c = numbers_decided _ _ c.eq.ensures
