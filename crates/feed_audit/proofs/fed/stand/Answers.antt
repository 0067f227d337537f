-- `feed_audit::fed::stand` meets its contract. The memory is of full size and holds no cell.
-- Assumes nothing.
use mathlib.Core.Path.{◌∙◌}
use Rattle.lent.specs.Lent.{table_of}
use Rattle.full_size.proofs.Anew.{lent_full}
use Rattle.feed_audit.proofs.Held.{full_cells}
use Rattle.feed_audit.proofs.Whole.{stand_is}
use Rattle.feed_audit.proofs.fed.stand.Goals as goal

pub returns-clause-stands : goal.returns-clause-stands
returns-clause-stands c =
    let t = table_of c.args.table.now in
    let full = lent_full t c.lend-memory.ensures c.sizes_for.ensures in
    let fed = c.read_fed-answers.ensures in
    stand_is t _ _ _ full fed.reads_fed c.requires (fed.same_memory.cells_length ∙ full_cells t full) c.copy_held-held.ensures.counts c.copy_held-held.ensures.copies
