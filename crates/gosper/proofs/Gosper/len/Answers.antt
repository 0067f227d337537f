-- `gosper::len` meets its contract.
-- Assumes nothing.
use Rattle.gosper.proofs.Rests.{rest_count}
use Rattle.gosper.proofs.Gosper.len.Goals as goal

pub returns : goal.returns
returns c = rest_count c.args.self c.requires
