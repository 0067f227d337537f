-- `is_clear` meets its contract.
-- Assumes nothing.
use Rattle.cell_lookup.proofs.Lookups.{clear_none, clear_at}
use Rattle.cell_lookup.proofs.is_clear.Goals as goal

pub returns-then-part-p : goal.returns-then-part-p
returns-then-part-p c = clear_none _ _ _ _ c.requires c.first_from-p.ensures c.if-part-p.true

pub returns : goal.returns
returns c = rw (c.lies_under.ensures, c.get32-j.ensures.0) (clear_at _ _ _ _ c.requires c.first_from-p.ensures c.if-part-p.false)
