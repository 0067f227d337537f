-- `edge_table::straight::halves_cross` meets its contract.
-- Assumes nothing.
use native.Mathlib.Omega.{arith}
use mathlib.Core.Bool.{not}
use mathlib.Core.Path.{ap}
use Rattle.scope.proofs.Scan.{going_false, going_true}
use Rattle.scope.proofs.Tests.{fails}
use Rattle.edge_table.proofs.straight.halves_cross.Goals as goal

pub returns-then-not-crosses_at : goal.returns-then-not-crosses_at
returns-then-not-crosses_at c = going_false c.loop-i.invariant (omega arith) (fails c.crosses_at.ensures (ap not c.if-not-crosses_at.true))

pub returns : goal.returns
returns c = going_true c.loop-i.invariant (omega arith)
