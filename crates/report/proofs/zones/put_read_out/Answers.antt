-- `report::zones::put_read_out` meets its contract. By what was read out.
-- Assumes nothing.
use Rattle.text.proofs.Writing.{wrote_more}
use Rattle.report.specs.Answers.{read_out_text}
use Rattle.report.proofs.zones.put_read_out.Goals as goal

pub returns-in-Nothing : goal.returns-in-Nothing
unfolding read_out_text
returns-in-Nothing c = rw c.in-Nothing.is (wrote_more c.put_summary-counted.ensures c.put_bytes.ensures)

pub returns-in-Closed : goal.returns-in-Closed
unfolding read_out_text
returns-in-Closed c = rw c.in-Closed.is (wrote_more c.put_summary-counted-in-Closed.ensures c.put_bytes-in-Closed.ensures)

pub returns-in-Outline : goal.returns-in-Outline
unfolding read_out_text
returns-in-Outline c = rw c.in-Outline.is c.put_counted.ensures
