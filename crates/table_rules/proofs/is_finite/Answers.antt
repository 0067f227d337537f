-- `table_rules::is_finite` meets its contract. An infinity or a NaN less itself is a NaN, and no other float is.
-- Assumes nothing.
use Rattle.table_rules.proofs.Floats.{finite_is}
use Rattle.table_rules.proofs.is_finite.Goals as goal

pub returns : goal.returns
returns c = finite_is c.args.x
