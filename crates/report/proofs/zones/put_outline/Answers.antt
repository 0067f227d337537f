-- `report::zones::put_outline` meets its contract. By the answer.
-- Assumes nothing.
use Rattle.report.specs.Answers.{outline_text}
use Rattle.report.proofs.zones.put_outline.Goals as goal

pub returns-in-Ok : goal.returns-in-Ok
unfolding outline_text
returns-in-Ok c = rw c.in-Ok.is c.put_read_out.ensures

pub returns-in-Err : goal.returns-in-Err
unfolding outline_text
returns-in-Err c = rw c.in-Err.is (rw (c.at_or-line.ensures, c.index.ensures) at c.put_refusal.ensures)
