-- `outline_text::put_edge` meets its contract: its texts, one behind the other.
-- Assumes nothing.
use Rattle.std.proofs.Common.{rules}
use Rattle.text.proofs.Writing.{wrote_more}
use Rattle.outline_text.specs.Outlines.{edge_text}
use Rattle.outline_text.proofs.put_edge.Goals as goal

pub returns : goal.returns
unfolding edge_text
returns c = search (rules, wrote_more)
