-- The loop of `edge_table::straight::edges_kept`.
use Prim.Native.Nat.{◌^◌, ◌<◌, ◌≤◌}
use mathlib.Core.Path.{◌≡◌}
use lib.ListN.{length}
use Rattle.edge_table.specs.Straight.{sevens_kept}
use Rattle.edge_table.proofs.Gathered.{Showing, rises}
use Rattle.edge_table.proofs.straight.edges_kept.Given as goal

abbrev pub invariant-loop-i : goal.invariant-loop-i
invariant-loop-i l =
    (0 < l.i) × Showing (sevens_kept l.wanted l.edges) (length l.edges) l.i (l.off ≡ 0) × Showing (rises l.edges) (length l.edges) l.i (2 ^ 63 ≤ l.rising)
