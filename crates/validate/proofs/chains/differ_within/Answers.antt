-- `validate::chains::differ_within` meets its contract.
-- Assumes nothing.
use Rattle.validate.proofs.Chaining.{chain_room}
use Rattle.validate.proofs.chains.differ_within.Goals as goal

pub differ-requires : goal.differ-requires
differ-requires g c = chain_room g.row.ROOM c.requires.few c.requires.room
