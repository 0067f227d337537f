-- `audit::summary/put_counts` meets its contract. Two notes in a row.
-- Assumes nothing.
use Rattle.text.proofs.Writing.{wrote_more}
use Rattle.audit.proofs.summary.put_counts.Goals as goal

pub returns : goal.returns
returns c = wrote_more c.put_noted-of_polygons.ensures c.put_noted.ensures
