-- The loop of `rings::walk::mark_ring`.
use mathlib.Core.Path.{◌≡◌}
use mathlib.Core.Bool.{true}
use Prim.Native.Nat.{◌-◌}
use lib.ListN.{length}
use Rattle.scope.specs.Lists.{at}
use Rattle.rings.proofs.Marks.{MarkInv}
use Rattle.rings.proofs.walk.mark_ring.Given as goal

abbrev pub invariant-loop-x : goal.invariant-loop-x
invariant-loop-x l = MarkInv l.view.row_slot.now l.view.slot_row.now l.view.next.now l.initial.mark l.r l.mark l.k l.x true × (l.slot ≡ at l.view.row_slot.now l.x - 1)

abbrev pub decreases-loop-x : goal.decreases-loop-x
decreases-loop-x l = length l.view.row_slot.now - l.k
