-- `refusal_text::put_place` meets its contract. By the number.
-- Assumes nothing.
use Rattle.text.proofs.Writing.{wrote_more}
use Rattle.refusal_text.specs.Refusals.{refusal_place}
use Rattle.refusal_text.proofs.put_place.Goals as goal

pub returns-in-8 : goal.returns-in-8
unfolding refusal_place
returns-in-8 c = rw c.in-8.is (wrote_more c.put_shown-named.ensures c.put_bytes.ensures)
