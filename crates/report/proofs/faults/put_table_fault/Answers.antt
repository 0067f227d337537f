-- `report::faults::put_table_fault` meets its contract: nothing, or its texts, one behind the other.
-- Assumes nothing.
use Rattle.std.proofs.Common.{rules}
use Rattle.text.proofs.Writing.{wrote_none, wrote_more}
use Rattle.report.specs.Faults.{table_fault_text}
use Rattle.report.proofs.faults.put_table_fault.Goals as goal

pub returns-in-Ok : goal.returns-in-Ok
unfolding table_fault_text
returns-in-Ok c = rw c.in-Ok.is (search (rules, wrote_none))

pub returns-in-Err-CutOff : goal.returns-in-Err-CutOff
unfolding table_fault_text
returns-in-Err-CutOff c = rw (c.in-Err-CutOff.is, rw c.in-Err-CutOff.is at c.in-Err-CutOff.field-0-is) (wrote_more c.put_shown-named.ensures c.put_noted.ensures)

pub returns-in-Err-TooMany : goal.returns-in-Err-TooMany
unfolding table_fault_text
returns-in-Err-TooMany c =
    rw (c.in-Err-TooMany.is, rw c.in-Err-TooMany.is at c.in-Err-TooMany.field-0-is)
    (wrote_more (wrote_more c.put_shown-named-in-Err-TooMany.ensures c.put_noted-placed.ensures) c.put_noted-in-Err-TooMany.ensures)
