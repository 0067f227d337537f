-- `is_new` meets its contract.
-- Assumes nothing.
use Rattle.cell_lookup.proofs.Lookups.{ordered_ascending, new_none, new_at}
use Rattle.cell_lookup.proofs.is_new.Goals as goal

pub first_from-p-requires : goal.first_from-p-requires
first_from-p-requires c = ordered_ascending c.requires.ordered

pub returns-then-part-p : goal.returns-then-part-p
returns-then-part-p c = new_none _ _ _ _ _ c.requires c.first_from-p.ensures c.if-part-p.true

pub returns : goal.returns
returns c = rw c.get32-j.ensures.0 (new_at _ _ _ _ _ c.requires c.first_from-p.ensures c.if-part-p.false)
