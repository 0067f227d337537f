-- `table_words::rules::row_fault` meets its contract. A row with a valid edge is within.
-- Assumes nothing.
use mathlib.Core.Bool.{not}
use mathlib.Core.Path.{ap}
use Rattle.scope.proofs.Tests.{holds}
use Rattle.table_words.proofs.Rows.{edge_within}
use Rattle.table_words.proofs.rules.row_fault.Goals as goal

pub row_ascends-requires : goal.row_ascends-requires
row_ascends-requires c = edge_within c.args.edges.now _ (holds c.edge_at.ensures (ap not c.if-not-edge_at.false))
