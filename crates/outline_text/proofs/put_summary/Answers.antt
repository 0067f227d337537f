-- `outline_text::put_summary` meets its contract: its texts, one behind the other.
-- Assumes nothing.
use Rattle.std.proofs.Common.{rules}
use Rattle.text.proofs.Writing.{wrote_more}
use Rattle.outline_text.specs.Outlines.{summary_text}
use Rattle.outline_text.proofs.put_summary.Goals as goal

pub returns : goal.returns
unfolding summary_text
returns c = search (rules, wrote_more)
