-- The loop of `rings::groups::mark_groups`.
use Rattle.rings.proofs.Painting.{GroupsInv}
use Rattle.rings.proofs.groups.mark_groups.Given as goal

abbrev pub invariant-loop-p : goal.invariant-loop-p
invariant-loop-p l = GroupsInv l.view.parent.now l.initial.mark l.view.held l.mark l.p
