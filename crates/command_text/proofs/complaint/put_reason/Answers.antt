-- `command_text::complaint::put_reason` meets its contract. By the length of the word.
-- Assumes nothing.
use Rattle.text.proofs.Writing.{wrote_more}
use mathlib.Core.Path.{sym, ◌∙◌}
use borrow.Author.Tests.{le-ltb}
use Rattle.command_text.specs.Complaints.{reason_text}
use Rattle.command_text.proofs.complaint.put_reason.Goals as goal

pub returns : goal.returns
unfolding reason_text
returns c = rw (sym c.is_empty.ensures ∙ c.if-is_empty.false, le-ltb _ _ c.if-word-gt4096.false) (wrote_more (wrote_more (wrote_more c.put_bytes-parted.ensures c.put_shown-named.ensures) c.put_bytes-ended.ensures) c.put_misplaced.ensures)
