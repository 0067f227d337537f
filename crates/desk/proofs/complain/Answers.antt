-- `desk::complain` meets its contract.
-- Assumes nothing.
use Rattle.desk.proofs.Pages.{in_slice, within}
use Rattle.desk.proofs.complain.Goals as goal

pub say_report-requires : goal.say_report-requires
say_report-requires c = within c.in_room-report.ensures (in_slice _ _)
