-- `walk_levels::move_levels` meets its contract: the invariant is `Run`.
-- Assumes nothing.
use Prim.Native.Nat.{◌+◌, ◌≤◌, ◌<◌}
use native.Mathlib.Omega.{arith}
use Rattle.walk_levels.proofs.LevelLaws.{run_top, run_next, run_last}
use Rattle.walk_levels.proofs.move_levels.Goals as goal

pub returns-then-top-last : goal.returns-then-top-last
returns-then-top-last c = let p = c.requires.1 in
    let d = p.deep in
    let l : c.top_level-top.result ≤ c.args.last = omega arith in
    let e : c.args.last < c.top_level-top.result + 1 = omega arith in
    run_last _ _ _ _ d (run_next _ _ _ _ d (run_top _ _ _ _ d p.fine p.shown c.top_level-top.ensures) l c.move_level.ensures) e

pub loop-r-preserved : goal.loop-r-preserved
loop-r-preserved c = run_next _ _ _ _ c.requires.1.deep c.loop-r.invariant (omega arith) c.move_level-moved.ensures
