-- `outline_text::put_ring` meets its contract: its texts, one behind the other.
-- Assumes nothing.
use Rattle.std.proofs.Common.{rules}
use Rattle.text.proofs.Writing.{wrote_more}
use Rattle.outline_text.specs.Outlines.{ring_text}
use Rattle.outline_text.proofs.put_ring.Goals as goal

pub returns : goal.returns
unfolding ring_text
returns c = rw (← c.area_at.ensures, ← c.at32-count.ensures.0, ← c.at32.ensures.0) (search (rules, wrote_more))
