-- `ring_list::read_out` meets its contract: the core's answer counts no more rings than there are records, and the records are those of what it wrote.
-- Assumes nothing.
use Rattle.ring_list.specs.Listing.{reading_rings}
use Rattle.ring_list.proofs.Listings.{read_fits, fills, lists}
use Rattle.ring_list.proofs.read_out.Goals as goal

pub list_rings-requires : goal.list_rings-requires
list_rings-requires c =
    let done = c.read_out_agreed-answer.ensures in fills c.args.rings.now done.reads_out (read_fits _ _ _ _) done.same_output

pub returns-clause-reads_rings : goal.returns-clause-reads_rings
unfolding reading_rings
returns-clause-reads_rings c = lists c.args.rings.now c.read_out_agreed-answer.ensures.reads_out _ c.list_rings.ensures
