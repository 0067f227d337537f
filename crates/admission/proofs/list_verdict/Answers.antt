-- `admission::list_verdict` meets its contract. The table, then the list.
-- Assumes nothing.
use Rattle.lent.specs.Lent.{table_of}
use Rattle.admission.proofs.Refusals.{some_row}
use Rattle.admission.proofs.list_verdict.Goals as goal

pub bounds-table-0 : goal.bounds-table-0
bounds-table-0 c = some_row (table_of c.args.table.now) c.args.fits c.args.mode c.open_verdict.ensures c.in_ok-open_verdict.was
