-- The loop of `union_find::root`.
use mathlib.Core.Path.{◌≡◌}
use Prim.Native.Nat.{◌<◌, ◌-◌}
use lib.ListN.{length}
use Rattle.scope.specs.Lists.{at}
use Rattle.scope.specs.UnionFind.{climb}
use Rattle.union_find.proofs.root.Given as goal

abbrev pub invariant-loop-p : goal.invariant-loop-p
invariant-loop-p l = (l.x < l.n) × (l.p ≡ at l.parent l.x) × (climb (length l.parent) l.parent l.x ≡ climb (length l.parent) l.parent l.a)

abbrev pub decreases-loop-p : goal.decreases-loop-p
decreases-loop-p l = l.n - at l.rank l.x
