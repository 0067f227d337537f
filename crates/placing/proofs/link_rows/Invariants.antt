-- The loop of `placing::link_rows`.
use Rattle.placing.proofs.Linking.{Linking}
use Rattle.placing.proofs.link_rows.Given as goal

abbrev pub invariant-loop-i : goal.invariant-loop-i
invariant-loop-i l =
    Linking l.initial.prev l.initial.next l.row_slot l.rows l.i l.prev l.next
