-- The loop of `codec::encode`.
use lib.ListN.{length, get_or}
use Rattle.codec.proofs.Writing.{Written}
use Rattle.codec.proofs.encode.Given as goal

abbrev pub invariant-loop-i : goal.invariant-loop-i
invariant-loop-i g l = Written (λ i. g.T.ToBytes.bytes (get_or l.xs i g.T.ToBytes.zero)) l.initial.b l.start (length l.xs) l.b l.i
