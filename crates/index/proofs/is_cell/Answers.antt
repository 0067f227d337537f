-- `index::is_cell` meets its contract. The top byte, the base cell, and the digits at once.
-- Assumes nothing.
use Rattle.scope.proofs.Cells.{valid_cell_is}
use Rattle.index.proofs.is_cell.Goals as goal

pub returns : goal.returns
returns c = rw (valid_cell_is, c.base_cell.ensures, c.digits_fit.ensures)
