-- `walk_levels::need_to_move_to_next` meets its contract.
-- Assumes nothing.
use Rattle.walk_levels.proofs.Remainders.{packed_same}
use Rattle.walk_levels.proofs.need_to_move_to_next.Goals as goal

pub returns : goal.returns
returns c = packed_same c.args.position c.args.resolution c.requires
