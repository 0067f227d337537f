-- The loop of `free_slots::skip_used`.
use Rattle.free_slots.proofs.Searching.{Skipping}
use Rattle.free_slots.proofs.skip_used.Given as goal

abbrev pub invariant-loop-eight : goal.invariant-loop-eight
invariant-loop-eight l = Skipping l.slot_row l.start l.slot l.eight-iterator.size l.eight-iterator.rest.now
