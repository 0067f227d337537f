-- The loop of `rings::walk::count_rings`.
use Rattle.rings.proofs.Counting.{CountInv}
use Rattle.rings.proofs.walk.count_rings.Given as goal

abbrev pub invariant-loop-i : goal.invariant-loop-i
invariant-loop-i l = CountInv l.view.row_slot.now l.view.slot_row.now l.view.next.now l.initial.mark l.mark l.rings l.edges l.i
