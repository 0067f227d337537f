-- `index::is_pentagon` meets its contract. The digits up to the resolution are compared with 0 at once.
-- Assumes nothing.
use borrow.Author.Tests.{eq-eqb, ne_eqb}
use Rattle.index.proofs.Prefix.{pentagon_at_once}
use Rattle.index.proofs.is_pentagon.Goals as goal

pub returns-then-digits-resolution-ne0 : goal.returns-then-digits-resolution-ne0
returns-then-digits-resolution-ne0 c = rw (pentagon_at_once, ← c.resolution.ensures, ne_eqb _ _ c.if-digits-resolution-ne0.true)

pub returns : goal.returns
returns c = rw (pentagon_at_once, ← c.resolution.ensures, eq-eqb _ _ c.if-digits-resolution-ne0.false, ← c.base_cell.ensures) c.is_pentagon_base.ensures
