-- `walk_examples::digest` meets its contract. The loop keeps `Summed`, and each turn leaves one edge fewer.
-- Assumes nothing.
use native.Mathlib.Omega.{arith}
use Rattle.walk_examples.proofs.Walked.{sum_step, sum_end}
use Rattle.walk_examples.proofs.digest.Goals as goal

pub loop-walk-preserved : goal.loop-walk-preserved
loop-walk-preserved c = sum_step c.loop-walk.invariant c.step-stepped.ensures

pub returns : goal.returns
returns c = let e = c.len.ensures in sum_end c.loop-walk.invariant (omega arith)
