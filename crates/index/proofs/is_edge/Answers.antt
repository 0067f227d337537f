-- `index::is_edge` meets its contract. The top byte, the base cell, the digits at once, and edge 1 of a pentagon.
-- Assumes nothing.
use borrow.Author.Tests.{eq-eqb, ne_eqb}
use Rattle.scope.proofs.Edges.{valid_edge_is}
use Rattle.scope.proofs.Tests.{and_true, and_false}
use Rattle.index.proofs.is_edge.Goals as goal

pub returns-then-top-ne17 : goal.returns-then-top-ne17
returns-then-top-ne17 c = rw (valid_edge_is, c.base_cell.ensures, c.digits_fit.ensures, ne_eqb _ _ c.if-top-ne17.true, and_false, and_true)

pub returns : goal.returns
returns c = rw (valid_edge_is, c.base_cell.ensures, c.digits_fit.ensures, c.is_pentagon.ensures, eq-eqb _ _ c.if-top-ne17.false, and_true)
