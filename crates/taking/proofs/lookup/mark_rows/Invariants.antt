-- The loop of `taking::lookup::mark_rows`.
use lib.ListN.{length}
use Rattle.gosper.specs.Walking.{Walking, rest}
use Rattle.taking.proofs.Looking.{Looking}
use Rattle.taking.proofs.lookup.mark_rows.Given as goal

abbrev pub invariant-loop-walk : goal.invariant-loop-walk
invariant-loop-walk l = Walking l.walk × Looking l.edges l.initial.row_mark l.initial.rows l.cell l.row_mark l.rows (rest l.walk) l.count l.twice

abbrev pub decreases-loop-walk : goal.decreases-loop-walk
decreases-loop-walk l = length (rest l.walk)
