-- `command_text::complaint::put_fault` meets its contract.
-- Assumes nothing.
use Rattle.text.proofs.Writing.{wrote_more}
use Rattle.command_text.proofs.complaint.put_fault.Goals as goal

pub returns : goal.returns
returns c = wrote_more (wrote_more c.put_bytes-told.ensures c.put_numeral-numbered.ensures) c.put_reason.ensures
