-- `note_text::put_area` meets its contract.
-- Assumes nothing.
use Rattle.text.proofs.Writing.{wrote_more}
use Rattle.note_text.proofs.put_area.Goals as goal

pub returns : goal.returns
returns c = rw (← c.bits_of.ensures) (wrote_more (wrote_more (wrote_more c.put_area_decimal-decimal.ensures c.put_bytes-named.ensures) c.put_numeral-bits.ensures) c.put_bytes.ensures)
