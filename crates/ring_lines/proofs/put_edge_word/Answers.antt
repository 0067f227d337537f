-- `ring_lines::put_edge_word` meets its contract.
-- Assumes nothing.
use Rattle.text.proofs.Writing.{wrote_more}
use Rattle.ring_lines.specs.Rings.{edge_word}
use Rattle.ring_lines.proofs.put_edge_word.Goals as goal

pub returns : goal.returns
unfolding edge_word
returns c = rw (← c.at_or.ensures) (wrote_more c.put_bytes-parted.ensures c.put_numeral.ensures)
