-- `feed_audit::audit` meets its contract. What stands, and the same dissolved afresh from its held cells.
-- Assumes nothing.
use mathlib.Core.Path.{refl}
use Rattle.lent.proofs.Same.{drawn_is}
use Rattle.feed_audit.proofs.Whole.{audit_is}
use Rattle.feed_audit.proofs.audit.Goals as goal

pub returns-clause-audits : goal.returns-clause-audits
returns-clause-audits c = audit_is _ _ _ _ _ c.stand-stood.ensures.stands refl c.stand-stood.ensures.within (rw (drawn_is c.as_drawn.ensures) at c.same_anew-same.ensures.compares)
