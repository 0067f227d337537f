-- `audit::summary::put_offers` meets its contract. Three notes and the refusals in a row.
-- Assumes nothing.
use Rattle.text.proofs.Writing.{wrote_more}
use Rattle.audit.specs.Summary.{offers_text}
use Rattle.audit.proofs.summary.put_offers.Goals as goal

pub returns : goal.returns
unfolding offers_text
returns c = rw (← c.count_at-accepted.ensures, ← c.count_at-replays.ensures) (wrote_more (wrote_more (wrote_more c.put_noted-of_all.ensures c.put_noted-of_accepted.ensures) c.put_refusals-of_refused.ensures) c.put_noted.ensures)
