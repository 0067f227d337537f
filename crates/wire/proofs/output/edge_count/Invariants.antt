-- The loop of `wire::output::edge_count`.
use mathlib.Core.Path.{◌≡◌}
use Rattle.scope.specs.Lists.{at, total}
use Rattle.wire.proofs.output.edge_count.Given as goal

abbrev pub invariant-loop-size : goal.invariant-loop-size
invariant-loop-size l = l.edges ≡ total (at l.output.size.now) l.size-index
