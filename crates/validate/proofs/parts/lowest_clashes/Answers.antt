-- `validate::parts::lowest_clashes` meets its contract.
-- Assumes nothing.
use Rattle.validate.proofs.Chaining.{apart_found}
use Rattle.validate.proofs.parts.lowest_clashes.Goals as goal

pub returns-then-all_differ : goal.returns-then-all_differ
returns-then-all_differ c = apart_found (c.all_differ.ensures.shown c.if-all_differ.true) c.if-mixed.false
