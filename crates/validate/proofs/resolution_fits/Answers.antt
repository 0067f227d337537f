-- `validate::resolution_fits` meets its contract.
-- Assumes nothing.
use borrow.Author.Tests.{eq-eqb, ne_eqb}
use Rattle.scope.specs.CellLists.{resolution_fits}
use Rattle.validate.proofs.resolution_fits.Goals as goal

pub returns-then-mode-eq0 : goal.returns-then-mode-eq0
unfolding resolution_fits
returns-then-mode-eq0 c = rw (eq-eqb _ _ c.if-mode-eq0.true, c.resolution.ensures)

pub returns : goal.returns
unfolding resolution_fits
returns c = rw (ne_eqb _ _ c.if-mode-eq0.false, c.resolution-2.ensures)
