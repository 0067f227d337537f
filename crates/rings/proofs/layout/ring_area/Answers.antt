-- `layout/ring_area` meets its contract. The invariant: the terms of the rows passed are added.
-- Assumes nothing.
use native.Mathlib.Omega.{arith}
use Rattle.rings.proofs.Areas.{area_start, area_next}
use Rattle.rings.proofs.layout.ring_area.Goals as goal

pub loop-row-init : goal.loop-row-init
loop-row-init c = area_start c.args.terms.now c.args.rows.now c.new-adder.ensures

pub loop-row-preserved : goal.loop-row-preserved
loop-row-preserved c = area_next c.args.terms.now c.args.rows.now c.loop-row.row-index c.loop-row.invariant (omega arith) c.add-adder.ensures
