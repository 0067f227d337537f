-- `free_slots::vacate` meets its contract: one store (Flagged).
-- Assumes nothing.
use Rattle.free_slots.proofs.Flagged.{vacate_stored}
use Rattle.free_slots.proofs.vacate.Goals as goal

pub returns : goal.returns
returns c = vacate_stored c.args.vacant.now c.args.slot
