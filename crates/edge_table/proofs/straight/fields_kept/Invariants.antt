-- The loop of `edge_table::straight::fields_kept`.
use Prim.Native.Nat.{◌+◌, ◌*◌}
use Rattle.edge_table.proofs.Blocks.{Blocks}
use Rattle.edge_table.proofs.straight.fields_kept.Given as goal

abbrev pub invariant-loop-top : goal.invariant-loop-top
invariant-loop-top l = Blocks l.edges l.target l.end (l.top * 16 + l.target)
