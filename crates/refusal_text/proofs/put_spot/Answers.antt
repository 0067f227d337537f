-- `refusal_text::put_spot` meets its contract.
-- Assumes nothing.
use Rattle.text.proofs.Writing.{wrote_more}
use Rattle.refusal_text.proofs.put_spot.Goals as goal

pub returns : goal.returns
returns c = wrote_more c.put_shown-named.ensures c.put_noted.ensures
