-- The loop of `rings::layout::ring_areas`.
use lib.Ieee.{nan}
use Rattle.rings.specs.Laying.{area_laid, AreasReady}
use Rattle.ring_sort.proofs.Fills.{Filler}
use Rattle.rings.proofs.layout.ring_areas.Given as goal

abbrev pub invariant-loop-i : goal.invariant-loop-i
invariant-loop-i l = Filler (AreasReady l.terms l.edges l.start l.size l.initial.area l.n) nan (area_laid l.terms l.edges l.start l.size) l.initial.area l.n l.area l.i
