-- The loop of `codec::decode`.
use Rattle.codec.proofs.Columns.{Filled}
use Rattle.codec.proofs.decode.Given as goal

abbrev pub invariant-loop-i : goal.invariant-loop-i
invariant-loop-i g l = Filled (g.T.FromBytes.column l.b l.start l.step) l.initial.xs l.xs l.i
