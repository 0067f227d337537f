-- `audit::summary/put_unread` meets its contract. Notes, words and the end of the line in a row.
-- Assumes nothing.
use Rattle.text.proofs.Writing.{wrote_more}
use Rattle.audit.specs.Summary.{unread_text}
use Rattle.audit.proofs.summary.put_unread.Goals as goal

pub returns : goal.returns
unfolding unread_text
returns c = wrote_more (wrote_more c.put_noted-numbered.ensures c.put_words-worded.ensures) c.put_bytes.ensures
