-- `placing::place_rows` meets its contract: each turn is the next of the definition's stores (Placing).
-- Assumes nothing.
use native.Mathlib.Omega.{arith}
use Rattle.placing.proofs.Placing.{placing_start, search_asks, placing_fits, placing_turn, placing_end}
use Rattle.placing.proofs.place_rows.Goals as goal

pub loop-i-init : goal.loop-i-init
loop-i-init c = placing_start c.requires

pub lowest_free-slot-requires : goal.lowest_free-slot-requires
lowest_free-slot-requires c = search_asks c.requires c.loop-i.invariant c.loop-i-test.true

pub put32-requires : goal.put32-requires
put32-requires c = let f = placing_fits c.requires c.loop-i.invariant c.loop-i-test.true c.lowest_free-slot.ensures.found c.get32-row.ensures.0 in (f.in_row, f.row_fits)

pub put32-requires-in-loop-i : goal.put32-requires-in-loop-i
put32-requires-in-loop-i c = let f = placing_fits c.requires c.loop-i.invariant c.loop-i-test.true c.lowest_free-slot.ensures.found c.get32-row.ensures.0 in (f.in_cell, f.cell_fits)

pub overflow_add-slot : goal.overflow_add-slot
overflow_add-slot c = let f = placing_fits c.requires c.loop-i.invariant c.loop-i-test.true c.lowest_free-slot.ensures.found c.get32-row.ensures.0 in omega (arith, f.slot_fits)

pub put32-requires-in-loop-i-2 : goal.put32-requires-in-loop-i-2
put32-requires-in-loop-i-2 c = let f = placing_fits c.requires c.loop-i.invariant c.loop-i-test.true c.lowest_free-slot.ensures.found c.get32-row.ensures.0 in (f.in_slot, f.slot_fits)

pub overflow_add-start : goal.overflow_add-start
overflow_add-start c = let f = placing_fits c.requires c.loop-i.invariant c.loop-i-test.true c.lowest_free-slot.ensures.found c.get32-row.ensures.0 in omega (arith, f.slot_fits)

pub loop-i-preserved : goal.loop-i-preserved
loop-i-preserved c =
    placing_turn c.requires c.loop-i.invariant c.loop-i-test.true c.lowest_free-slot.ensures c.lowest_free-slot.auto.vacant c.get32-row.ensures.0 c.put32.ensures c.put32-in-loop-i.ensures c.put32-in-loop-i-2.ensures

pub returns : goal.returns
returns c = placing_end c.requires c.loop-i.invariant c.loop-i-test.false
