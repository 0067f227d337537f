-- `ring_lines::put_ring_name` meets its contract: its texts, one behind the other.
-- Assumes nothing.
use Rattle.std.proofs.Common.{rules}
use Rattle.text.proofs.Writing.{wrote_more}
use Rattle.ring_lines.specs.Rings.{ring_name}
use Rattle.ring_lines.proofs.put_ring_name.Goals as goal

pub returns : goal.returns
unfolding ring_name
returns c = rw (← c.begins.ensures, ← c.at32.ensures.0) (search (rules, wrote_more))
