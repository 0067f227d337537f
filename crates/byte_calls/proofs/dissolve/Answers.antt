-- `byte_calls::dissolve` meets its contract: refused by 10, or dissolved within the limits.
-- Assumes nothing.
use mathlib.Core.Bool.{not}
use mathlib.Core.Path.{ap}
use Rattle.scope.proofs.Tests.{fails, holds}
use Rattle.byte_calls.proofs.Limits.{dissolves, dissolve_refused}
use Rattle.byte_calls.proofs.dissolve.Goals as goal

pub returns-then-not-dissolve_fits : goal.returns-then-not-dissolve_fits
returns-then-not-dissolve_fits c =
    let a = c.args in dissolve_refused a.table.now a.cells.now a.slots a.places a.out.now a.mode (fails c.dissolve_fits.ensures (ap not c.if-not-dissolve_fits.true)) c.result.ensures

pub returns : goal.returns
returns c =
    let a = c.args in dissolves a.table.now a.cells.now a.slots a.places a.out.now a.mode (holds c.dissolve_fits.ensures (ap not c.if-not-dissolve_fits.false)) c.dissolve_within.ensures
