-- `command_text::complaint::put_begin` meets its contract.
-- Assumes nothing.
use Rattle.text.proofs.Writing.{wrote_more}
use Rattle.command_text.proofs.complaint.put_begin.Goals as goal

pub returns : goal.returns
returns c = wrote_more (rw c.name_of.ensures at c.put_bytes-named.ensures) c.put_bytes.ensures
