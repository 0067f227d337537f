-- The loop of `rings::layout::lay_rings`.
use Rattle.rings.proofs.Laying.{LayAllInv}
use Rattle.rings.proofs.layout.lay_rings.Given as goal

abbrev pub invariant-loop-i : goal.invariant-loop-i
invariant-loop-i l = LayAllInv l.view.row_slot.now l.view.slot_row.now l.view.next.now l.rows l.n l.initial.edges l.initial.start l.initial.size l.edges l.start l.size l.i l.k
