-- `edge_table::straight::fields_kept` meets its contract.
-- Assumes nothing.
use borrow.Author.Tests.{eqb-true}
use Rattle.edge_table.proofs.Blocks.{blocks_done}
use Rattle.edge_table.proofs.straight.fields_kept.Goals as goal

pub returns : goal.returns
returns c = λ e. blocks_done c.loop-top.invariant (eqb-true _ _ e)
