-- `gosper::new` meets its contract: one law for each way to begin.
-- Assumes nothing.
use mathlib.Core.Bool.{not}
use mathlib.Core.Path.{ap}
use mathlib.Core.Path.{◌≡◌}
use Prim.Native.Nat.{◌<◌, ◌≤◌}
use native.Mathlib.Omega.{arith}
use Rattle.scope.specs.Cells.{resolution_of}
use Rattle.scope.proofs.Tests.{fails, holds}
use Rattle.gosper.proofs.BeginLaws.{begins_none, begins_hexagon, begins_finer, begins_own, started, started_own}
use Rattle.gosper.proofs.Gosper.new.Goals as goal

pub returns-then-target-parent : goal.returns-then-target-parent
returns-then-target-parent c =
    let e = c.resolution-parent.ensures in
    let l : c.args.target < resolution_of c.args.cell = omega arith in
    begins_none _ _ _ c.requires.1 l (started_own _ _ _ e c.start.ensures)

pub returns-then-not-is_pentagon : goal.returns-then-not-is_pentagon
returns-then-not-is_pentagon c =
    let e = c.resolution-parent.ensures in
    let l : resolution_of c.args.cell ≤ c.args.target = omega arith in
    begins_hexagon _ _ _ c.requires.1 (fails c.is_pentagon.ensures (ap not c.if-not-is_pentagon.true)) l
    (started _ _ _ _ _ _ _ _ e c.edge_count-count.ensures c.start-then-not-is_pentagon.ensures)

pub returns-then-parent-target : goal.returns-then-parent-target
returns-then-parent-target c =
    let e = c.resolution-parent.ensures in
    let l : resolution_of c.args.cell < c.args.target = omega arith in
    begins_finer _ _ _ c.requires.1 (holds c.is_pentagon.ensures (ap not c.if-not-is_pentagon.false)) l
    (started _ _ _ _ _ _ _ _ e c.edge_count-count-2.ensures c.start-then-parent-target.ensures)

pub returns : goal.returns
returns c =
    let e = c.resolution-parent.ensures in
    let l : resolution_of c.args.cell ≡ c.args.target = omega arith in
    begins_own _ _ _ c.requires.1 (holds c.is_pentagon.ensures (ap not c.if-not-is_pentagon.false)) l
    (started _ _ _ _ _ _ _ _ e c.edge_count-count-2.ensures c.start-2.ensures)
