-- `codec::decode` meets its contract: the values before place i are decoded. Assumes nothing.
use native.Mathlib.Omega.{arith}
use Rattle.codec.proofs.Columns.{filled_none, filled_next}
use Rattle.codec.proofs.decode.Goals as goal

pub loop-i-init : goal.loop-i-init
loop-i-init g c = filled_none (g.met.T.FromBytes.column_grows _ _ _) _

pub loop-i-preserved : goal.loop-i-preserved
loop-i-preserved g c = filled_next (g.met.T.FromBytes.column_grows _ _ _) c.loop-i.invariant (omega arith) _ c.read.ensures
