-- The loop of `rings::groups::ring_groups`.
use Rattle.scope.specs.Lists.{at}
use Rattle.rings.specs.Grouping.{marked_group, RingGroupsReady}
use Rattle.ring_sort.proofs.Fills.{Filler}
use Rattle.rings.proofs.groups.ring_groups.Given as goal

abbrev pub invariant-loop-i : goal.invariant-loop-i
invariant-loop-i l = Filler (RingGroupsReady l.view.row_slot.now l.view.slot_cell.now l.mark l.rows l.initial.out l.n) 0 (λ j. marked_group l.view.row_slot.now l.view.slot_cell.now l.mark (at l.rows j)) l.initial.out l.n l.out l.i
