-- `index::lies_under` meets its contract. The base cell and the digits up to the coarser resolution, at once.
-- Assumes nothing.
use Rattle.index.proofs.Prefix.{under_at_once}
use Rattle.index.proofs.lies_under.Goals as goal

pub returns : goal.returns
returns c = rw (under_at_once, c.resolution-coarse.ensures, c.resolution.ensures)
