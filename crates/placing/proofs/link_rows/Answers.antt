-- `placing::link_rows` meets its contract: each turn is the next of the definition's stores (Linking).
-- Assumes nothing.
use Rattle.scope.proofs.Outlines.{onward, onward_lt}
use Rattle.placing.proofs.Linking.{slot_asks, linking_fits, linking_turn, linking_end}
use Rattle.placing.proofs.link_rows.Goals as goal

pub slot_at-after-requires : goal.slot_at-after-requires
slot_at-after-requires c =
    rw c.place_after.ensures (slot_asks c.requires (onward _ c.loop-i.i) (onward_lt _ c.loop-i.i c.loop-i-test.true))

pub put32-requires : goal.put32-requires
put32-requires c =
    let f = linking_fits c.requires c.loop-i.invariant c.loop-i-test.true c.slot_at-slot.ensures c.place_after.ensures c.slot_at-after.ensures in
    (f.in_next, f.next_fits)

pub put32-requires-in-loop-i : goal.put32-requires-in-loop-i
put32-requires-in-loop-i c =
    let f = linking_fits c.requires c.loop-i.invariant c.loop-i-test.true c.slot_at-slot.ensures c.place_after.ensures c.slot_at-after.ensures in
    (f.in_prev, f.prev_fits)

pub loop-i-preserved : goal.loop-i-preserved
loop-i-preserved c =
    linking_turn c.requires c.loop-i.invariant c.loop-i-test.true c.slot_at-slot.ensures c.place_after.ensures c.slot_at-after.ensures c.put32.ensures c.put32-in-loop-i.ensures

pub returns : goal.returns
returns c =
    linking_end c.requires c.loop-i.invariant c.loop-i-test.false
