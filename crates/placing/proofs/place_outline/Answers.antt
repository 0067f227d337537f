-- `placing::place_outline` meets its contract: the rows, then the links (PlacedSlots).
-- Assumes nothing.
use Rattle.placing.proofs.PlacedSlots.{link_asks, outline_done}
use Rattle.placing.proofs.place_outline.Goals as goal

pub link_rows-requires : goal.link_rows-requires
link_rows-requires c =
    link_asks c.requires c.place_rows.ensures

pub returns : goal.returns
returns c =
    outline_done c.requires c.place_rows.ensures c.link_rows.ensures
