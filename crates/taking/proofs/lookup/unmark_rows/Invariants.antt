-- The loop of `taking::lookup::unmark_rows`.
use Rattle.taking.proofs.Marking.{Clearing}
use Rattle.taking.proofs.lookup.unmark_rows.Given as goal

abbrev pub invariant-loop-row : goal.invariant-loop-row
invariant-loop-row l = Clearing l.initial.row_mark l.rows l.row_mark l.row-index
