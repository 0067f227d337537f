-- The loop of `union_find::find`.
use mathlib.Core.Path.{◌≡◌}
use Prim.Native.Nat.{◌<◌, ◌-◌}
use lib.ListN.{length}
use Rattle.scope.specs.Lists.{at}
use Rattle.scope.specs.UnionFind.{halve}
use Rattle.scope.proofs.Halving.{Forest}
use Rattle.union_find.proofs.find.Given as goal

abbrev pub invariant-loop-x : goal.invariant-loop-x
invariant-loop-x l =
    Forest l.parent l.rank l.n × (l.x < l.n) × (halve (length l.initial.parent) l.parent l.x ≡ halve (length l.initial.parent) l.initial.parent l.a) × (length l.parent ≡ length l.initial.parent)

abbrev pub decreases-loop-x : goal.decreases-loop-x
decreases-loop-x l = l.n - at l.rank l.x
