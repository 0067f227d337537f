-- `walk_timing::zone_walk` meets its contract. The loop keeps `Mixing`, and each turn leaves one edge fewer.
-- Assumes nothing.
use mathlib.Core.Bool.{not}
use mathlib.Core.Path.{ap}
use native.Mathlib.Omega.{arith}
use Rattle.walk_timing.proofs.Mixing.{mixing_step, mixing_end, no_outline, outline_mixed}
use Rattle.walk_timing.proofs.zone_walk.Goals as goal

pub returns-then-not-is_cell-target : goal.returns-then-not-is_cell-target
returns-then-not-is_cell-target c = no_outline _ _ c.is_cell.ensures (ap not c.if-not-is_cell-target.true)

pub loop-walk-preserved : goal.loop-walk-preserved
loop-walk-preserved c = mixing_step c.loop-walk.invariant c.step-stepped.ensures

pub returns : goal.returns
returns c = let e = c.len.ensures in outline_mixed _ _ c.is_cell.ensures (ap not c.if-not-is_cell-target.false) (mixing_end c.loop-walk.invariant (omega arith))
