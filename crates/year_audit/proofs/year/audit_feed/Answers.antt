-- `year_audit::year::audit_feed` meets its contract. The outputs that it lends hold zeros.
-- Assumes nothing.
use Prim.Native.Nat.{◌≤◌}
use native.Mathlib.Omega.{arith}
use Rattle.desk.proofs.Outputs.{new_output_is}
use Rattle.year_audit.proofs.Reporting.{audited_in}
use Rattle.year_audit.proofs.year.audit_feed.Goals as goal

pub lend-output-requires : goal.lend-output-requires
lend-output-requires c = let h : 32768 ≤ 32768 = omega arith in (omega arith, (c.new-arrays.ensures, (h, h)))

pub lend-anew-requires : goal.lend-anew-requires
lend-anew-requires c = let h : 32768 ≤ 32768 = omega arith in (omega arith, (c.new-anew_arrays.ensures, (h, h)))

pub returns : goal.returns
returns c = audited_in _ _ _ _ _ (new_output_is c.lend-output.ensures) (new_output_is c.lend-anew.ensures) c.report_audit-report.ensures c.in_room.ensures
