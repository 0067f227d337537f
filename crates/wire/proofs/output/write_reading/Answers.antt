-- `wire::output::write_reading` meets its contract: the summary, the rings, the edges. Assumes nothing.
use mathlib.Core.Path.{refl}
use Rattle.wire.proofs.Showing.{reading_written}
use Rattle.wire.proofs.output.write_reading.Goals as goal

pub returns : goal.returns
returns c =
    reading_written c.requires c.args.out.now refl c.summarise-summary.ensures c.write_summary.ensures c.write_rings.ensures c.encode.ensures
