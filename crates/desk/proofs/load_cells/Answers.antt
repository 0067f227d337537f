-- `desk::load_cells` meets its contract. What was taken lies within the slices.
-- Assumes nothing.
use Rattle.desk.proofs.Fits.{cells_few}
use Rattle.desk.proofs.load_cells.Goals as goal

pub returns-in-Ok-clause-fits : goal.returns-in-Ok-clause-fits
returns-in-Ok-clause-fits g c = cells_few c.take_cells.ensures c.in-Ok.is
