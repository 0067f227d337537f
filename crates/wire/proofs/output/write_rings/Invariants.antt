-- The loop of `wire::output::write_rings`.
use Rattle.scope.specs.Bytes.{ring_bytes}
use Rattle.lent.specs.Lent.{drawn_of}
use Rattle.codec.proofs.Writing.{Written}
use Rattle.wire.proofs.output.write_rings.Given as goal

abbrev pub invariant-loop-i : goal.invariant-loop-i
invariant-loop-i l = Written (ring_bytes (drawn_of l.output)) l.initial.out 24 l.rings l.out l.i
