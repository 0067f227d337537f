-- `zone_lines::put_zone` meets its contract. By the answer.
-- Assumes nothing.
use Rattle.std.proofs.Common.{rules}
use Rattle.zone_lines.specs.Zones.{zone_text}
use Rattle.zone_lines.proofs.put_zone.Goals as goal

pub returns-in-Ok : goal.returns-in-Ok
unfolding zone_text
returns-in-Ok c = rw c.in-Ok.is c.put_read_out.ensures

pub returns-in-Err : goal.returns-in-Err
unfolding zone_text
returns-in-Err c = rw c.in-Err.is (search rules)
