-- `groups/find_group` meets its contract. The invariant: i has the root of p. The measure is the way to the root.
-- Assumes nothing.
use mathlib.Core.Path.{sym, ◌∙◌}
use Rattle.rings.proofs.Painting.{climb_up, climb_less, climb_marked, climb_new}
use Rattle.rings.proofs.groups.find_group.Goals as goal

pub returns-then-above-i : goal.returns-then-above-i
returns-then-above-i c =
    climb_new c.loop-above.invariant (sym c.get32.ensures.0 ∙ c.loop-above-test.true) c.get32-above.ensures.0 c.if-above-i.true

pub loop-above-smaller : goal.loop-above-smaller
loop-above-smaller c = climb_less c.loop-above.invariant c.get32-above.ensures.0 c.if-above-i.false

pub loop-above-preserved : goal.loop-above-preserved
loop-above-preserved c = climb_up c.loop-above.invariant c.get32-above.ensures.0

pub returns : goal.returns
returns c = c.get32-2.ensures.0 ∙ climb_marked c.loop-above.invariant (λ e. c.loop-above-test.false (c.get32.ensures.0 ∙ e))
