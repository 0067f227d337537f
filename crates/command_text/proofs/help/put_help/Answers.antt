-- `command_text::help::put_help` meets its contract.
-- Assumes nothing.
use Rattle.text.proofs.Writing.{wrote_more}
use Rattle.command_text.specs.Help.{help_text}
use Rattle.command_text.proofs.help.put_help.Goals as goal

pub returns : goal.returns
unfolding help_text
returns c = wrote_more (wrote_more (wrote_more (rw c.use_of.ensures at c.put_bytes-told.ensures) c.put_bytes-tabled.ensures) (rw c.list_of.ensures at c.put_bytes-listed.ensures)) c.put_bytes.ensures
