-- `desk::reports::in_room` meets its contract. By the room.
-- Assumes nothing.
use native.Mathlib.Omega.{arith}
use Rattle.text.proofs.Writing.{wrote_more}
use Rattle.desk.proofs.Pages.{kept, left_out}
use Rattle.desk.proofs.reports.in_room.Goals as goal

pub returns-then-size_of-text : goal.returns-then-size_of-text
returns-then-size_of-text c = kept _ _ _ (omega arith)

pub returns : goal.returns
returns c = left_out _ _ _ (omega arith) (wrote_more c.put_shown-named.ensures c.put_bytes.ensures)
