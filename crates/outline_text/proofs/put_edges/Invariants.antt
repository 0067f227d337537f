-- The loop of `outline_text::put_edges`.
use Prim.Native.Nat.{◌+◌}
use Rattle.scope.specs.Lists.{at as entry}
use Rattle.text.proofs.Writing.{Runs}
use Rattle.outline_text.specs.Outlines.{edge_text}
use Rattle.outline_text.proofs.put_edges.Given as goal

abbrev pub invariant-loop-j : goal.invariant-loop-j
invariant-loop-j l = Runs (λ k. edge_text l.edges l.rows (entry l.list (l.start + k))) l.size l.initial.out l.at l.out l.place l.j
