-- `report::faults::put_list_fault` meets its contract: nothing, or its texts, one behind the other.
-- Assumes nothing.
use Rattle.std.proofs.Common.{rules}
use Rattle.text.proofs.Writing.{wrote_none, wrote_more}
use Rattle.report.specs.Faults.{list_fault_text}
use Rattle.report.proofs.faults.put_list_fault.Goals as goal

pub returns-in-None : goal.returns-in-None
unfolding list_fault_text
returns-in-None c = rw c.in-None.is (search (rules, wrote_none))

pub returns-in-Some-Wrong : goal.returns-in-Some-Wrong
unfolding list_fault_text
returns-in-Some-Wrong c =
    rw (c.in-Some-Wrong.is, rw c.in-Some-Wrong.is at c.in-Some-Wrong.field-0-is)
    (wrote_more (wrote_more c.put_shown-named.ensures c.put_noted-lined.ensures) c.put_wrong.ensures)

pub returns-in-Some-TooMany : goal.returns-in-Some-TooMany
unfolding list_fault_text
returns-in-Some-TooMany c =
    rw (c.in-Some-TooMany.is, rw c.in-Some-TooMany.is at c.in-Some-TooMany.field-0-is)
    (wrote_more (wrote_more c.put_shown-named-in-Some-TooMany.ensures c.put_noted-lined-in-Some-TooMany.ensures) c.put_noted.ensures)
