-- `union_find::root` meets its contract: a step up leaves the root that `climb` finds; the measure is how far the rank can still rise.
-- Assumes nothing.
use mathlib.Core.Path.{◌≡◌, sym, ◌∙◌}
use Prim.Native.Nat.{◌≤◌, ◌<◌}
use native.Mathlib.Omega.{arith}
use lib.ListN.{length}
use Rattle.scope.specs.Lists.{at}
use Rattle.scope.specs.UnionFind.{climb, root_of}
use Rattle.scope.proofs.Halving.{rank_low}
use Rattle.scope.proofs.Climb.{climb_on, climb_end}
use Rattle.union_find.proofs.root.Goals as goal

-- A step up from what is no root.
stepped : (c : goal.After-get32-p-in-loop-p) →
    let L = c.loop-p in
    let a = c.args in
    (L.p < a.n) × (at a.rank.now L.x < at a.rank.now L.p) × (at a.rank.now L.p ≤ a.n)
    × (climb (length a.parent.now) a.parent.now L.p ≡ climb (length a.parent.now) a.parent.now L.x)
stepped c =
    let L = c.loop-p in
    let w = c.requires.0 in
    let e : at c.args.parent.now L.x ≡ L.x → ⊥ = λ z. c.loop-p-test.true (L.invariant.1 ∙ z) in
    rw L.invariant.1 (w.inside L.x L.invariant.0, w.rises L.x L.invariant.0 e, rank_low _ _ _ w _ (w.inside L.x L.invariant.0), climb_on _ _ _ _ w L.x L.invariant.0 w.room e)

pub loop-p-smaller : goal.loop-p-smaller
loop-p-smaller c = omega (arith, (stepped c).1, (stepped c).2)

pub loop-p-preserved : goal.loop-p-preserved
loop-p-preserved c = ((stepped c).0, c.get32-p-in-loop-p.ensures.0, (stepped c).3 ∙ c.loop-p.invariant.2)

pub returns : goal.returns
unfolding root_of
returns c =
    let L = c.loop-p in
    let a = c.args in
    (sym (climb_end (length a.parent.now) a.parent.now L.x (sym L.invariant.1 ∙ c.loop-p-test.false)) ∙ L.invariant.2, L.invariant.0)
