-- `gosper::start` meets its contract.
-- Assumes nothing.
use Rattle.gosper.proofs.BeginLaws.{starts_at}
use Rattle.gosper.proofs.Gosper.start.Goals as goal

pub returns : goal.returns
returns c = starts_at _ _ _ _ _ _ _ _ c.start_levels-scratchpad.ensures
