-- `walk_levels::start::start_levels` meets its contract: a level deeper each turn.
-- Assumes nothing.
use Prim.Native.Nat.{◌≤◌, ◌<◌}
use native.Mathlib.Omega.{arith}
use Rattle.scope.proofs.Walks.{edge_direction_lt}
use Rattle.walk_levels.proofs.StartLaws.{first_fits, starts_own, starts_deeper, deeper_fits}
use Rattle.walk_levels.proofs.start.start_levels.Goals as goal

pub overflow_add-scratchpad-2 : goal.overflow_add-scratchpad-2
overflow_add-scratchpad-2 c = let s = c.args.start in let p = c.requires in
    omega (arith, edge_direction_lt s.past, c.edge_direction.ensures, first_fits s.cell s.parent s.past p.valid p.own _ c.edge_direction.ensures)

pub loop-reached-init : goal.loop-reached-init
loop-reached-init c = let s = c.args.start in let p = c.requires in
    starts_own s.cell s.parent s.past p.valid p.own c.args.positions.now _ p.cleared c.edge_direction.ensures

pub overflow_add-scratchpad-in-loop-reached : goal.overflow_add-scratchpad-in-loop-reached
overflow_add-scratchpad-in-loop-reached c =
    let d = c.requires.deep in let l = c.loop-reached in
    omega (
      arith,
      deeper_fits _ _ _ _ _ _ _ _ _ l.invariant (let h : c.args.start.parent ≤ l.reached = omega arith in h) (let h : l.reached < 15 = omega arith in h)
          c.start_position-p.ensures c.walk_digit.ensures c.set_digit-written.ensures,
    )

pub loop-reached-preserved : goal.loop-reached-preserved
loop-reached-preserved c =
    let d = c.requires.deep in let l = c.loop-reached in
    starts_deeper _ _ _ _ _ _ _ _ _ l.invariant (let h : c.args.start.parent ≤ l.reached = omega arith in h) (let h : l.reached < 15 = omega arith in h)
    c.start_position-p.ensures c.walk_digit.ensures c.set_digit-written.ensures
