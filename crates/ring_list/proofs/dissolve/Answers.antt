-- `ring_list::dissolve` meets its contract: the core's answer counts no more rings than there are records, and the records are those of what it wrote.
-- Assumes nothing.
use Rattle.ring_list.specs.Listing.{dissolving_rings}
use Rattle.ring_list.proofs.Listings.{dissolve_fits, fills, lists}
use Rattle.ring_list.proofs.dissolve.Goals as goal

pub list_rings-requires : goal.list_rings-requires
list_rings-requires c =
    let done = c.dissolve_agreed-answer.ensures in fills c.args.rings.now done.dissolves (dissolve_fits _ _ c.args.mode c.args.list.now _ _) done.same_output

pub returns-clause-dissolves_rings : goal.returns-clause-dissolves_rings
unfolding dissolving_rings
returns-clause-dissolves_rings c = lists c.args.rings.now c.dissolve_agreed-answer.ensures.dissolves _ c.list_rings.ensures
