-- The loop of `validate::parts::clashes_in_parts`.
use Rattle.validate.proofs.Joining.{Parting}
use Rattle.validate.proofs.parts.clashes_in_parts.Given as goal

abbrev pub invariant-loop-k : goal.invariant-loop-k
invariant-loop-k l = Parting l.cells l.mixed l.k-iterator.iter.size l.k-iterator.count l.k-iterator.iter.rest.now l.second l.nested
