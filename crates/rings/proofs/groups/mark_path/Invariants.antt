-- The loop of `rings::groups::mark_path`.
use Rattle.rings.proofs.Painting.{PaintInv, todo}
use Rattle.rings.proofs.groups.mark_path.Given as goal

abbrev pub invariant-loop-mark : goal.invariant-loop-mark
invariant-loop-mark l = PaintInv l.view.parent.now l.initial.mark l.view.held l.p l.v l.mark l.i

abbrev pub decreases-loop-mark : goal.decreases-loop-mark
decreases-loop-mark l = todo l.view.parent.now l.view.held l.mark l.i
