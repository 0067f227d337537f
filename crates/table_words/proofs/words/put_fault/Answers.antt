-- `table_words::words::put_fault` meets its contract. Its pieces, one behind the other.
-- Assumes nothing.
use Rattle.text.proofs.Writing.{wrote_more}
use Rattle.table_words.specs.Words.{fault_text}
use Rattle.table_words.proofs.words.put_fault.Goals as goal

pub returns : goal.returns
unfolding fault_text
returns c = wrote_more (wrote_more (wrote_more (wrote_more c.put_shown-named.ensures c.put_place-placed.ensures) c.put_noted-numbered.ensures) (rw c.words.ensures at c.put_bytes-worded.ensures)) c.put_bytes.ensures
