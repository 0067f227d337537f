-- The loop of `rings::groups::find_group`.
use Rattle.rings.proofs.Paths.{depth}
use Rattle.rings.proofs.Painting.{ClimbInv}
use Rattle.rings.proofs.groups.find_group.Given as goal

abbrev pub invariant-loop-above : goal.invariant-loop-above
invariant-loop-above l = ClimbInv l.view.parent.now l.mark l.view.held l.p l.i

abbrev pub decreases-loop-above : goal.decreases-loop-above
decreases-loop-above l = depth l.view.parent.now l.view.held l.i
