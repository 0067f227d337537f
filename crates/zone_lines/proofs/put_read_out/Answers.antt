-- `zone_lines::put_read_out` meets its contract. By what was read out.
-- Assumes nothing.
use Rattle.text.proofs.Writing.{wrote_more}
use Rattle.zone_lines.specs.Zones.{read_out_text}
use Rattle.zone_lines.proofs.put_read_out.Goals as goal

pub returns-in-Nothing : goal.returns-in-Nothing
unfolding read_out_text
returns-in-Nothing c = rw c.in-Nothing.is (wrote_more c.put_shown-named.ensures c.put_bytes.ensures)

pub returns-in-Closed : goal.returns-in-Closed
unfolding read_out_text
returns-in-Closed c = rw c.in-Closed.is (wrote_more c.put_shown-named.ensures c.put_noted.ensures)

pub returns-in-Outline : goal.returns-in-Outline
unfolding read_out_text
returns-in-Outline c = rw (c.in-Outline.is, ← c.standing-stand.ensures) (wrote_more (wrote_more c.put_shown-named.ensures c.put_counts-counted.ensures) c.put_ring_lines.ensures)
