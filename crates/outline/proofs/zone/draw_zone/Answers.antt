-- `outline::zone::draw_zone` meets its contract. The outputs that it lends hold zeros.
-- Assumes nothing.
use Prim.Native.Nat.{◌≤◌}
use native.Mathlib.Omega.{arith}
use Rattle.desk.proofs.Outputs.{new_output_is}
use Rattle.outline.proofs.Reporting.{drawn_in}
use Rattle.outline.proofs.zone.draw_zone.Goals as goal

pub lend-output-requires : goal.lend-output-requires
lend-output-requires c = let h : 32768 ≤ 32768 = omega arith in (omega arith, (c.new-arrays.ensures, (h, h)))

pub returns : goal.returns
returns c = drawn_in _ _ _ _ _ _ _ _ (new_output_is c.lend-output.ensures) c.report_zone-report.ensures c.in_room.ensures
