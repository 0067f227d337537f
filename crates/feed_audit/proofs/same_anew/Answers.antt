-- `feed_audit::same_anew` meets its contract. Dissolved afresh, and compared.
-- Assumes nothing.
use Rattle.lent.proofs.Same.{drawn_is}
use Rattle.feed_audit.proofs.Whole.{compared_is}
use Rattle.feed_audit.proofs.same_anew.Goals as goal

pub returns-clause-compares : goal.returns-clause-compares
returns-clause-compares c = compared_is _ _ _ _ _ c.dissolve_list-again.ensures.draws c.same_answer.ensures (rw (drawn_is c.as_drawn.ensures) at c.same_output.ensures)
