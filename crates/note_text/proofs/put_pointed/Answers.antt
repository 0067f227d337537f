-- `note_text::put_pointed` meets its contract.
-- Assumes nothing.
use Rattle.text.proofs.Writing.{wrote_more}
use Rattle.note_text.proofs.put_pointed.Goals as goal

pub returns : goal.returns
returns c = wrote_more (wrote_more c.put_numeral-whole.ensures c.put_bytes-point.ensures) c.put_numeral.ensures
