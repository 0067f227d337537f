-- `till_import::import_file` meets its contract. What is printed was written into the text.
-- Assumes nothing.
use Rattle.desk.proofs.Pages.{in_slice, within}
use Rattle.till_import.proofs.import_file.Goals as goal

pub say_report-requires : goal.say_report-requires
say_report-requires g c = within c.import_list-report.ensures (in_slice _ _)
