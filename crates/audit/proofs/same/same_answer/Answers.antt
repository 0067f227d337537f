-- `audit::same::same_answer` meets its contract. Number for number.
-- Assumes nothing.
use Rattle.audit.proofs.Equal.{answer_decided}
use Rattle.audit.proofs.same.same_answer.Goals as goal

pub returns : goal.returns
returns c = rw c.eq.ensures (answer_decided _ _ c.is_ok.ensures.value c.is_ok-2.ensures.value c.summarise.ensures c.summarise-2.ensures)
