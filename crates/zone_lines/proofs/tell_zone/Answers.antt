-- `zone_lines::tell_zone` meets its contract.
-- Assumes nothing.
use Rattle.zone_lines.proofs.Fits.{tells}
use Rattle.zone_lines.proofs.tell_zone.Goals as goal

pub returns : goal.returns
returns c = tells c.put_zone-written.ensures c.is_ok.ensures.value c.told_of.ensures
