-- `audit::summary/put_points` meets its contract. Four notes in a row.
-- Assumes nothing.
use Rattle.text.proofs.Writing.{wrote_more}
use Rattle.audit.specs.Summary.{points_text}
use Rattle.audit.proofs.summary.put_points.Goals as goal

pub returns : goal.returns
unfolding points_text
returns c = rw (← c.points_over-over.ensures, ← c.count_at-accepted.ensures, ← c.count_at-replays.ensures) (wrote_more (wrote_more (wrote_more c.put_noted-of_visits.ensures c.put_noted-of_unchecked.ensures) c.put_noted-of_credited.ensures) c.put_noted.ensures)
