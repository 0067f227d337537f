-- The loop of `row_search::notes::note_rows`.
use Rattle.row_search.proofs.Noting.{Noting}
use Rattle.row_search.proofs.notes.note_rows.Given as goal

abbrev pub invariant-loop-row : goal.invariant-loop-row
invariant-loop-row l = Noting l.edges l.initial.notes l.notes l.row
