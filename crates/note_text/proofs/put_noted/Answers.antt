-- `note_text::put_noted` meets its contract.
-- Assumes nothing.
use Rattle.text.proofs.Writing.{wrote_more}
use Rattle.note_text.proofs.put_noted.Goals as goal

pub returns : goal.returns
returns c = wrote_more (wrote_more c.put_bytes-named.ensures c.put_numeral-numbered.ensures) c.put_bytes.ensures
