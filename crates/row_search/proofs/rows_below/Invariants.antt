-- The loop of `row_search::rows_below`.
use Rattle.row_search.specs.Turns.{halvings}
use Rattle.row_search.proofs.Search.{Halving}
use Rattle.row_search.proofs.rows_below.Given as goal

abbrev pub invariant-loop-left : goal.invariant-loop-left
invariant-loop-left l = Halving l.edges l.bound l.low l.left

abbrev pub decreases-loop-left : goal.decreases-loop-left
decreases-loop-left l = halvings l.left
