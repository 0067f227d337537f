-- `audit::summary::put_audit` meets its contract. Its four parts in a row.
-- Assumes nothing.
use Rattle.text.proofs.Writing.{wrote_more}
use Rattle.audit.specs.Summary.{audit_text}
use Rattle.audit.proofs.summary.put_audit.Goals as goal

pub returns : goal.returns
unfolding audit_text
returns c = wrote_more (wrote_more (wrote_more c.put_offers-of_offers.ensures c.put_standing-of_standing.ensures) (rw c.afresh_words.ensures at c.put_bytes-of_afresh.ensures)) c.put_points.ensures
