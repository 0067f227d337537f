-- `desk::load_table` meets its contract. What was taken lies within the slices.
-- Assumes nothing.
use Rattle.desk.proofs.Fits.{rows_few}
use Rattle.desk.proofs.load_table.Goals as goal

pub returns-in-Ok-clause-fits : goal.returns-in-Ok-clause-fits
returns-in-Ok-clause-fits g c = rows_few c.take_table.ensures c.in-Ok.is
