-- `layout/lay_rings` meets its contract. The invariant: the rings of the rows passed are written, and their starts and lengths.
-- Assumes nothing.
use native.Mathlib.Omega.{arith}
use mathlib.Core.Path.{refl}
use Rattle.rings.proofs.Laying.{all_start, all_in, all_lay, all_few, all_next}
use Rattle.rings.proofs.layout.lay_rings.Goals as goal

pub loop-i-init : goal.loop-i-init
loop-i-init c = all_start c.requires

pub lay_ring-count-requires : goal.lay_ring-count-requires
lay_ring-count-requires c = all_lay c.loop-i.invariant (omega arith) c.get32.ensures.0

pub put32-requires : goal.put32-requires
put32-requires c =
    ((all_in c.loop-i.invariant (omega arith)).1, (all_few c.loop-i.invariant (omega arith) c.get32.ensures.0 c.lay_ring-count.ensures).0)

pub put32-requires-in-loop-i : goal.put32-requires-in-loop-i
put32-requires-in-loop-i c =
    ((all_in c.loop-i.invariant (omega arith)).2, (all_few c.loop-i.invariant (omega arith) c.get32.ensures.0 c.lay_ring-count.ensures).1)

pub loop-i-preserved : goal.loop-i-preserved
loop-i-preserved c =
    rw (c.put32.ensures, c.put32-in-loop-i.ensures) (all_next c.loop-i.invariant (omega arith) c.get32.ensures.0 c.lay_ring-count.ensures refl refl)
