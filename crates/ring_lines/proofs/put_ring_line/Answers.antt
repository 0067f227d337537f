-- `ring_lines::put_ring_line` meets its contract: its texts, one behind the other.
-- Assumes nothing.
use Rattle.std.proofs.Common.{rules}
use Rattle.text.proofs.Writing.{wrote_more}
use Rattle.ring_lines.specs.Rings.{ring_line}
use Rattle.ring_lines.proofs.put_ring_line.Goals as goal

pub returns : goal.returns
unfolding ring_line
returns c = rw (← c.area_at.ensures, ← c.at32-count.ensures.0, ← c.at32.ensures.0) (search (rules, wrote_more))
