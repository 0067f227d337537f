-- `row_search::find_row` meets its contract. Where the rows below the edge end, it stands or is absent.
-- Assumes nothing.
use mathlib.Core.Path.{◌∙◌}
use Rattle.scope.proofs.Tables.{ascending}
use Rattle.row_search.proofs.Search.{met_row, met_past}
use Rattle.row_search.proofs.find_row.Goals as goal
use Rattle.row_search.proofs.find_row.Goals.{then-low-edges, else-low-edges}

pub returns : goal.returns
returns c =
    let asc = ascending _ c.requires in
    let below = c.rows_below-low.ensures in
    c.then_some.ensures ∙ elim c.if-low-edges.branch [
      | then-low-edges w ↦ met_row asc below w.if-low-edges.true w.then_some-is
      | else-low-edges w ↦ met_past asc below w.if-low-edges.false w.then_some-is
    ]
