-- `groups/mark_path` meets its contract. The invariant: what is marked is right, and its way up is marked but for i.
-- Assumes nothing.
use mathlib.Core.Path.{sym, ◌∙◌}
use Rattle.rings.proofs.Painting.{paint_in, paint_value, paint_next, paint_less}
use Rattle.rings.proofs.groups.mark_path.Goals as goal

pub put32-requires : goal.put32-requires
put32-requires c = ((paint_in c.loop-mark.invariant).0, paint_value c.loop-mark.invariant)

pub loop-mark-smaller : goal.loop-mark-smaller
loop-mark-smaller c =
    rw c.put32.ensures (paint_less c.loop-mark.invariant (sym c.get32.ensures.0 ∙ c.loop-mark-test.true) c.get32-i.ensures.0)

pub loop-mark-preserved : goal.loop-mark-preserved
loop-mark-preserved c =
    rw c.put32.ensures (paint_next c.loop-mark.invariant (sym c.get32.ensures.0 ∙ c.loop-mark-test.true) c.get32-i.ensures.0)
