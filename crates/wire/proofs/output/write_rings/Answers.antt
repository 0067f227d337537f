-- `wire::output::write_rings` meets its contract: the rings before place i are written. Assumes nothing.
use mathlib.Core.Path.{refl}
use Rattle.codec.proofs.Writing.{written_none, written_next}
use Rattle.wire.proofs.output.write_rings.Goals as goal

pub loop-i-init : goal.loop-i-init
loop-i-init c = written_none _ _ _ _

pub loop-i-preserved : goal.loop-i-preserved
loop-i-preserved c = written_next c.loop-i.invariant 20 (λ i. refl) c.loop-i-test.true _ c.write_ring.ensures
