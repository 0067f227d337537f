-- The loop of `ring_lines::put_ring_lines`.
use Rattle.lent.specs.Lent.{drawn_of}
use Rattle.text.proofs.Writing.{Runs}
use Rattle.ring_lines.specs.Rings.{ring_line}
use Rattle.ring_lines.proofs.put_ring_lines.Given as goal

abbrev pub invariant-loop-i : goal.invariant-loop-i
invariant-loop-i l = Runs (ring_line l.edges (drawn_of l.drawn)) l.rings l.initial.out l.at l.out l.place l.i
