-- `command_text::complaint::put_end` meets its contract.
-- Assumes nothing.
use Rattle.text.proofs.Writing.{wrote_more}
use Rattle.command_text.proofs.complaint.put_end.Goals as goal

pub returns : goal.returns
returns c = wrote_more (wrote_more c.put_bytes-parted.ensures (rw c.name_of.ensures at c.put_bytes-named.ensures)) c.put_bytes.ensures
