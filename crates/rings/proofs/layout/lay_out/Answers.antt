-- `layout/lay_out` meets its contract. The areas are read off the rings that are laid.
-- Assumes nothing.
use Rattle.rings.proofs.Layouts.{out_areas, out_end}
use Rattle.rings.proofs.layout.lay_out.Goals as goal

pub ring_areas-requires : goal.ring_areas-requires
ring_areas-requires c =
    out_areas c.requires c.lay_rings.ensures

pub returns : goal.returns
returns c =
    out_end c.requires c.lay_rings.ensures c.ring_areas.ensures
