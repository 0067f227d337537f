-- `year_audit::year/put_audited` meets its contract. By the verdict of the opening.
-- Assumes nothing.
use Rattle.year_audit.proofs.Reporting.{told_refused, told_done}
use Rattle.year_audit.proofs.year.put_audited.Goals as goal

pub returns-in-Err : goal.returns-in-Err
returns-in-Err c = let s = c.args in told_refused s.table_name.now s.offered s.counts.now s.standing s.same s.visits c.in-Err.is c.put_refusal.ensures

pub returns-in-Ok : goal.returns-in-Ok
returns-in-Ok c = let s = c.args in told_done s.table_name.now s.offered s.counts.now s.standing s.same s.visits c.in-Ok.is c.put_audit.ensures
