-- `year_audit::year/report_audit` meets its contract. The points of a feed are no more than its cells.
-- Assumes nothing.
use Rattle.year_audit.proofs.Points.{points_low}
use Rattle.year_audit.proofs.Reporting.{reported}
use Rattle.year_audit.proofs.year.report_audit.Goals as goal

pub put_audited-requires : goal.put_audited-requires
put_audited-requires c = points_low _ _ _ _ c.audit-audited.ensures.audits c.requires

pub returns : goal.returns
returns c = reported c.audit-audited.ensures.audits c.put_audited.ensures
