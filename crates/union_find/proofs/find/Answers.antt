-- `union_find::find` meets its contract. Each turn is a turn of `halve` (Steps), which the invariant says leads to the same end from where
-- the loop stands; the measure is how far the rank can still rise.
-- Assumes nothing.
use mathlib.Core.Path.{sym, ◌∙◌}
use native.Mathlib.Omega.{arith}
use lib.ListN.{length}
use Rattle.scope.proofs.Halving.{halve_stop}
use Rattle.union_find.proofs.Steps.{Turned, find_turn, found}
use Rattle.union_find.proofs.find.Goals as goal

-- The turn as a whole, and what it leaves.
turned : (c : goal.After-get32-x) →
    let a = c.args in
    Turned a.rank.now a.n (length a.parent.now) c.loop-x.parent c.loop-x.x c.put32.new.s c.get32-x.result
turned c =
    find_turn _ _ _ _ _ c.loop-x.invariant.0 c.loop-x.invariant.1 c.requires.0.room
    c.get32.ensures.0 c.loop-x-test.true c.get32-p.ensures.0 c.get32-g.ensures.0 c.put32.ensures c.get32-x.ensures.0

pub loop-x-smaller : goal.loop-x-smaller
loop-x-smaller c = omega (arith, (turned c).higher, (turned c).low)

pub loop-x-preserved : goal.loop-x-preserved
loop-x-preserved c =
    let t = turned c in
    (t.keeps, t.held, t.same ∙ c.loop-x.invariant.2, t.long ∙ c.loop-x.invariant.3)

pub returns : goal.returns
returns c =
    let a = c.args in
    let s = halve_stop (length a.parent.now) c.loop-x.parent c.loop-x.x (sym c.get32.ensures.0 ∙ c.loop-x-test.false) in
    found _ _ _ _ _ _ c.requires.0 c.requires.1 (sym c.loop-x.invariant.2 ∙ s)
