-- `row_search::rows_below` meets its contract. The rows left close on the place where the bound would stand. The measure is how often
-- they can still be halved: each turn of the loop is a `Turn`, of which at most 17 can be made among 65,536 rows (Turns).
-- Assumes nothing.
use native.Mathlib.Omega.{arith}
use Rattle.scope.proofs.Tables.{ascending}
use Rattle.row_search.proofs.Search.{halving_up, halving_down}
use Rattle.row_search.proofs.Turns.{turn_less}
use Rattle.row_search.proofs.rows_below.Goals as goal

pub loop-left-smaller-then-edges-middle : goal.loop-left-smaller-then-edges-middle
loop-left-smaller-then-edges-middle c = turn_less (omega arith) (record { some = omega arith; half = omega arith })

pub loop-left-preserved-then-edges-middle : goal.loop-left-preserved-then-edges-middle
loop-left-preserved-then-edges-middle c = halving_up (ascending _ c.requires) c.loop-left.invariant _ (omega arith) c.if-edges-middle.true

pub loop-left-smaller : goal.loop-left-smaller
loop-left-smaller c = turn_less (omega arith) (record { some = omega arith; half = omega arith })

pub loop-left-preserved : goal.loop-left-preserved
loop-left-preserved c = halving_down (ascending _ c.requires) c.loop-left.invariant _ (omega arith) c.if-edges-middle.false
