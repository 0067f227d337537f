-- The loop of `edge_table::straight::halves_cross`.
use Rattle.scope.proofs.Scan.{Going}
use Rattle.edge_table.specs.Straight.{crosses}
use Rattle.edge_table.proofs.straight.halves_cross.Given as goal

abbrev pub invariant-loop-i : goal.invariant-loop-i
invariant-loop-i l = Going (crosses l.half l.reverse) l.half l.i
