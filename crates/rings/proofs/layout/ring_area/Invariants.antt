-- The loop of `rings::layout::ring_area`.
use Rattle.fp_adder.specs.Adders.{adder_of}
use Rattle.rings.proofs.Areas.{AreaInv}
use Rattle.rings.proofs.layout.ring_area.Given as goal

abbrev pub invariant-loop-row : goal.invariant-loop-row
invariant-loop-row l = AreaInv l.terms l.rows (adder_of l.adder) l.row-index
