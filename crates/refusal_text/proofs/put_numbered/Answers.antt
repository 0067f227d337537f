-- `refusal_text::put_numbered` meets its contract.
-- Assumes nothing.
use Rattle.text.proofs.Writing.{wrote_more}
use Rattle.refusal_text.specs.Refusals.{refusal_text}
use Rattle.refusal_text.proofs.put_numbered.Goals as goal

pub returns : goal.returns
unfolding refusal_text
returns c = wrote_more (wrote_more (wrote_more c.put_place-placed.ensures c.put_noted-numbered.ensures) (rw c.reason_of.ensures at c.put_bytes-worded.ensures)) c.put_bytes.ensures
