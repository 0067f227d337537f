-- `full_size::dissolve_list` meets its contract: the memory is cleared, of full size.
-- Assumes nothing.
use Rattle.lent.specs.Lent.{table_of}
use Rattle.full_size.proofs.Anew.{lent_full, drawn_full}
use Rattle.full_size.proofs.dissolve_list.Goals as goal

pub returns-clause-draws : goal.returns-clause-draws
returns-clause-draws c = drawn_full _ _ _ _ (lent_full (table_of c.args.table.now) c.lend-memory.ensures c.sizes_for.ensures) c.dissolve.ensures.dissolves
