-- `walk/count_rings` meets its contract. The invariant: the rings that start below i are marked and counted.
-- Assumes nothing.
use native.Mathlib.Omega.{arith}
use mathlib.Core.Path.{sym, ◌∙◌}
use Rattle.rings.proofs.Counting.{count_start, count_in, count_mark, count_few, count_new, count_old, count_end}
use Rattle.rings.proofs.walk.count_rings.Goals as goal
use Rattle.rings.proofs.walk.count_rings.Goals.{then-is_unmarked, else-is_unmarked}

pub loop-i-init : goal.loop-i-init
loop-i-init c = count_start c.requires

pub mark_ring-edges-requires : goal.mark_ring-edges-requires
mark_ring-edges-requires c = count_mark c.loop-i.invariant (omega arith) (sym c.is_unmarked.ensures ∙ c.if-is_unmarked.true)

pub overflow_add-edges : goal.overflow_add-edges
overflow_add-edges c =
    let h = (count_in c.loop-i.invariant (omega arith)).2 in let k = count_few c.loop-i.invariant (omega arith) (sym c.is_unmarked.ensures ∙ c.if-is_unmarked.true) c.mark_ring-edges.ensures in omega arith

pub overflow_add-rings : goal.overflow_add-rings
overflow_add-rings c = let h = (count_in c.loop-i.invariant (omega arith)).1 in omega arith

pub loop-i-preserved : goal.loop-i-preserved
loop-i-preserved c =
    elim c.if-is_unmarked.branch [
      | then-is_unmarked w ↦
          rw (w.mark-is, w.rings-is, w.edges-is)
          (count_new c.loop-i.invariant (omega arith) (sym c.is_unmarked.ensures ∙ w.if-is_unmarked.true) w.mark_ring-edges.ensures)
      | else-is_unmarked w ↦
          rw (w.mark-is, w.rings-is, w.edges-is) (count_old c.loop-i.invariant (omega arith) (sym c.is_unmarked.ensures ∙ w.if-is_unmarked.false))
    ]

pub returns : goal.returns
returns c = count_end c.loop-i.invariant (omega arith)
