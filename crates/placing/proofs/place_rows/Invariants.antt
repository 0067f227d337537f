-- The loop of `placing::place_rows`.
use Rattle.placing.proofs.Placing.{Placing}
use Rattle.placing.proofs.place_rows.Given as goal

abbrev pub invariant-loop-i : goal.invariant-loop-i
invariant-loop-i l =
    Placing l.initial.slot_row l.initial.slot_cell l.initial.row_slot l.initial.vacant l.rows l.place l.i l.start l.slot_row l.slot_cell l.row_slot l.vacant
