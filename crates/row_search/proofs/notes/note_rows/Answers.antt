-- `row_search::notes::note_rows` meets its contract. The invariant is `Noting`.
-- Assumes nothing.
use native.Mathlib.Omega.{arith}
use Rattle.row_search.proofs.Noting.{noting_start, noting_more}
use Rattle.row_search.proofs.notes.note_rows.Goals as goal

pub loop-row-init : goal.loop-row-init
loop-row-init c = noting_start

pub loop-row-preserved : goal.loop-row-preserved
loop-row-preserved c = noting_more c.loop-row.invariant (omega arith) c.note_place-place.ensures.0 c.put32.ensures
