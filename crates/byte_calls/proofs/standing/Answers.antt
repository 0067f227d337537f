-- `byte_calls::standing` meets its contract: refused by 10, or called within the limits.
-- Assumes nothing.
use mathlib.Core.Bool.{not}
use mathlib.Core.Path.{ap}
use Rattle.scope.proofs.Tests.{fails, holds}
use Rattle.byte_calls.proofs.Limits.{stands, standing_refused}
use Rattle.byte_calls.proofs.standing.Goals as goal

pub returns-then-not-standing_fits : goal.returns-then-not-standing_fits
returns-then-not-standing_fits c =
    let a = c.args in standing_refused a.table.now a.state.now a.slots a.places a.out.now a.call a.value (fails c.standing_fits.ensures (ap not c.if-not-standing_fits.true)) c.result.ensures

pub returns : goal.returns
returns c =
    let a = c.args in stands a.table.now a.state.now a.slots a.places a.out.now a.call a.value (holds c.standing_fits.ensures (ap not c.if-not-standing_fits.false)) c.call_within.ensures
