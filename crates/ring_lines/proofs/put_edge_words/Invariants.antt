-- The loop of `ring_lines::put_edge_words`.
use Prim.Native.Nat.{◌+◌}
use Rattle.scope.specs.Lists.{at as entry}
use Rattle.text.proofs.Writing.{Runs}
use Rattle.ring_lines.specs.Rings.{edge_word}
use Rattle.ring_lines.proofs.put_edge_words.Given as goal

abbrev pub invariant-loop-j : goal.invariant-loop-j
invariant-loop-j l = Runs (λ k. edge_word l.edges (entry l.list (l.start + k))) l.size l.initial.out l.at l.out l.place l.j
