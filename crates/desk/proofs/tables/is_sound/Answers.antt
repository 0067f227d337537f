-- `desk::tables::is_sound` meets its contract.
-- Assumes nothing.
use native.Mathlib.Omega.{arith}
use mathlib.Core.Path.{◌∙◌}
use Rattle.desk.proofs.Pages.{in_slice, within}
use Rattle.desk.proofs.Sound.{sound_told}
use Rattle.desk.proofs.tables.is_sound.Goals as goal

pub say_report-requires : goal.say_report-requires
say_report-requires c = within c.report_table-report.ensures (in_slice _ _)

pub returns : goal.returns
returns c = c.is_ok.ensures.value ∙ sound_told _ _ _ (omega arith) c.report_table-report.ensures
