-- `report::faults::put_unreadable` meets its contract: its texts, one behind the other.
-- Assumes nothing.
use Rattle.text.proofs.Writing.{wrote_more}
use Rattle.report.proofs.faults.put_unreadable.Goals as goal

pub returns : goal.returns
returns c = rw (← c.unreadable_words.ensures) (wrote_more c.put_shown-named.ensures c.put_bytes.ensures)
