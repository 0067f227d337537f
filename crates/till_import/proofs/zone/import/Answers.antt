-- `till_import::zone::import` meets its contract. The memory is of full size, whatever a list before left there.
-- Assumes nothing.
use Rattle.lent.specs.Lent.{table_of}
use Rattle.lent.proofs.Same.{drawn_is}
use Rattle.full_size.proofs.Anew.{drawn_anew}
use Rattle.till_import.proofs.Importing.{imported}
use Rattle.till_import.proofs.zone.import.Goals as goal

pub returns : goal.returns
returns c =
    let drawn = drawn_anew (table_of c.args.table.now) _ _ _ c.lend_again-memory.ensures.sized c.sizes_for.ensures c.dissolve-answer.ensures.dissolves in
    imported drawn (rw (drawn_is c.as_drawn.ensures) at c.tell_zone.ensures)
