-- The loop of `outline_text::put_rings`.
use Rattle.text.proofs.Writing.{Runs}
use Rattle.outline_text.specs.Outlines.{ring_text}
use Rattle.outline_text.proofs.put_rings.Given as goal

abbrev pub invariant-loop-i : goal.invariant-loop-i
invariant-loop-i l = Runs (ring_text l.edges l.rows l.drawn.start.now l.drawn.size.now l.drawn.group.now l.drawn.area.now l.drawn.edges.now) l.rings l.initial.out l.at l.out l.place l.i
