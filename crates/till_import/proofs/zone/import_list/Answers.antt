-- `till_import::zone::import_list` meets its contract. The outputs that it lends hold zeros.
-- Assumes nothing.
use Prim.Native.Nat.{◌≤◌}
use native.Mathlib.Omega.{arith}
use Rattle.desk.proofs.Outputs.{new_output_is}
use Rattle.till_import.proofs.Importing.{imported_in}
use Rattle.till_import.proofs.zone.import_list.Goals as goal

pub lend-output-requires : goal.lend-output-requires
lend-output-requires c = let h : 32768 ≤ 32768 = omega arith in (omega arith, (c.new-outputs.ensures, (h, h)))

pub returns : goal.returns
returns c = imported_in _ _ _ _ _ _ (new_output_is c.lend-output.ensures) c.import-told.ensures c.import-told.auto.text c.report_of-report.ensures c.in_room.ensures
