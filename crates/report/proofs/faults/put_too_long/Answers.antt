-- `report::faults/put_too_long` meets its contract.
-- Assumes nothing.
use Rattle.text.proofs.Writing.{wrote_more}
use Rattle.report.proofs.faults.put_too_long.Goals as goal

pub returns : goal.returns
returns c = wrote_more c.put_shown-named.ensures c.put_noted.ensures
