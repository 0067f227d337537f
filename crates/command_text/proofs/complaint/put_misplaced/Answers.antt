-- `command_text::complaint::put_misplaced` meets its contract. By the mode, and by the first byte.
-- Assumes nothing.
use Rattle.text.proofs.Writing.{wrote_more}
use mathlib.Core.Path.{sym, ◌∙◌}
use Rattle.command_text.specs.Complaints.{misplaced_text}
use Rattle.command_text.proofs.complaint.put_misplaced.Goals as goal

pub returns-then-mode_wanted : goal.returns-then-mode_wanted
unfolding misplaced_text
returns-then-mode_wanted c = rw (c.if-mode_wanted.true) c.put_bytes.ensures

pub returns-then-begins_as_option : goal.returns-then-begins_as_option
unfolding misplaced_text
returns-then-begins_as_option c = rw (c.if-mode_wanted.false, sym c.begins_as_option.ensures ∙ c.if-begins_as_option.true) (wrote_more (wrote_more c.put_bytes-told.ensures c.put_shown-named.ensures) c.put_bytes-then-begins_as_option.ensures)

pub returns : goal.returns
unfolding misplaced_text
returns c = rw (c.if-mode_wanted.false, sym c.begins_as_option.ensures ∙ c.if-begins_as_option.false) c.put_bytes-2.ensures
