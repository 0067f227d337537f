-- `table_words::words::put_place` meets its contract. By the fault.
-- Assumes nothing.
use Rattle.text.proofs.Writing.{wrote_more}
use Rattle.table_words.specs.Words.{fault_place}
use Rattle.table_words.proofs.words.put_place.Goals as goal

pub returns-in-Whole : goal.returns-in-Whole
unfolding fault_place
returns-in-Whole c = rw c.in-Whole.is c.put_bytes.ensures

pub returns-in-Row : goal.returns-in-Row
unfolding fault_place
returns-in-Row c = rw c.in-Row.is (wrote_more c.put_noted-numbered.ensures c.put_noted.ensures)
