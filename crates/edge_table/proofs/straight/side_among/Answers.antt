-- `edge_table::straight::side_among` meets its contract.
-- Assumes nothing.
use mathlib.Core.Bool.{not}
use Prim.Native.Nat.{◌/◌, ◌^◌}
use mathlib.Core.Bool.{Bool, ◌&&◌}
use mathlib.Core.Path.{sym, ◌∙◌, ap}
use lib.Dec.{eqb}
use Rattle.scope.specs.Lists.{at}
use Rattle.scope.proofs.Tests.{fails}
use Rattle.scope.proofs.Tables.{ascending}
use Rattle.edge_table.proofs.Sides.{side_none, side_first}
use Rattle.edge_table.proofs.straight.side_among.Goals as goal

pub returns-then-not-is_pentagon : goal.returns-then-not-is_pentagon
returns-then-not-is_pentagon c = λ _. side_none _ c.args.fields (fails c.is_pentagon.ensures (ap not c.if-not-is_pentagon.true))

pub returns : goal.returns
returns c = λ e.
    let a = c.args in
    let x = at a.edges.now c.rows_below-row.result in
    side_first a.edges.now a.fields c.rows_below-row.ensures (ascending _ c.requires.0) c.if-edges-row.false
    (ap (λ (b : Bool). b && eqb (x / 2 ^ 56) 17) (sym c.is_pentagon-2.ensures) ∙ e)
