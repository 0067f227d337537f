-- The loop of `rings::layout::lay_ring`.
use mathlib.Core.Path.{◌≡◌}
use mathlib.Core.Bool.{true}
use Prim.Native.Nat.{◌-◌}
use lib.ListN.{length}
use Rattle.scope.specs.Lists.{at}
use Rattle.rings.proofs.Laying.{LayInv}
use Rattle.rings.proofs.layout.lay_ring.Given as goal

abbrev pub invariant-loop-x : goal.invariant-loop-x
invariant-loop-x l = LayInv l.view.row_slot.now l.view.slot_row.now l.view.next.now l.initial.out l.from l.r l.out l.k l.x true × (l.slot ≡ at l.view.row_slot.now l.x - 1)

abbrev pub decreases-loop-x : goal.decreases-loop-x
decreases-loop-x l = length l.view.row_slot.now - l.k
