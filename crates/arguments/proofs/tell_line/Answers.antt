-- `arguments::tell_line` meets its contract. By whether help is asked for.
-- Assumes nothing.
use Rattle.arguments.proofs.Words.{says_help, says_complaint}
use Rattle.arguments.proofs.tell_line.Goals as goal

pub returns-then-line : goal.returns-then-line
returns-then-line c = says_help _ _ _ c.if-line.true c.put_help.ensures

pub returns : goal.returns
returns c = says_complaint _ _ _ c.if-line.false c.status.ensures c.put_complaint.ensures
