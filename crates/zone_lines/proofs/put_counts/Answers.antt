-- `zone_lines::put_counts` meets its contract.
-- Assumes nothing.
use Rattle.text.proofs.Writing.{wrote_more}
use Rattle.zone_lines.specs.Zones.{counts_text}
use Rattle.zone_lines.proofs.put_counts.Goals as goal

pub returns : goal.returns
unfolding counts_text
returns c = wrote_more (wrote_more (wrote_more (wrote_more (wrote_more c.put_noted-of_cells.ensures c.put_noted-of_polygons.ensures) c.put_noted-of_rings.ensures) c.put_noted-of_edges.ensures) c.put_area-measured.ensures) c.put_bytes.ensures
