-- `row_search::notes::find_noted` meets its contract. A row that holds the edge is its row; else the search decides.
-- Assumes nothing.
use Rattle.scope.proofs.Tables.{ascending}
use Rattle.scope.proofs.RowSearch.{row_is, found_at}
use Rattle.row_search.proofs.notes.find_noted.Goals as goal

pub returns-then-edges-row : goal.returns-then-edges-row
returns-then-edges-row c = found_at _ _ _ (row_is _ _ (ascending _ c.requires) _ c.if-row-edges.true c.if-edges-row.true) c.if-row-edges.true
