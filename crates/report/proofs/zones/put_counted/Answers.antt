-- `report::zones/put_counted` meets its contract.
-- Assumes nothing.
use Rattle.text.proofs.Writing.{wrote_more}
use Rattle.report.proofs.zones.put_counted.Goals as goal

pub returns : goal.returns
returns c = rw (← c.standing-count.ensures) (wrote_more c.put_summary-counted.ensures c.put_rings.ensures)
