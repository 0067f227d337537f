-- `taking::list::take_list` meets its contract. The cells before the i-th are taken, and those from it on are still to be offered. Whatever is noted, they are taken as without notes.
-- Assumes nothing.
use native.Mathlib.Omega.{arith}
use mathlib.Core.Path.{◌≡◌, refl, ◌∙◌}
use Rattle.std.proofs.Common.{rules, Err}
use Rattle.lent.specs.Lent.{memory_with}
use Rattle.lent.proofs.Same.{memory_refl, memory_on}
use Rattle.scope.proofs.Sound.{sound_table}
use Rattle.taking.proofs.InTurn.{free_slots_lem, turn_start, turn_asks, turn_stops, turn_on, turn_end}
use Rattle.taking.proofs.list.take_list.Goals as goal

pub note_some-noted-requires : goal.note_some-noted-requires
note_some-noted-requires c = omega (arith, (sound_table c.requires.asks.sound).most)

pub loop-cell-init : goal.loop-cell-init
loop-cell-init c =
    let m = memory_with c.args.memory.now c.args.cell_mark.now c.args.row_mark.now in
    (turn_start c.requires (free_slots_lem m c.free_slots-free.ensures), refl, memory_refl c.args.memory.now)

pub take_cell-requires : goal.take_cell-requires
take_cell-requires c = turn_asks c.loop-cell.invariant.0 c.loop-cell-test.true

pub returns-in_err-free-clause-takes_all : goal.returns-in_err-free-clause-takes_all
returns-in_err-free-clause-takes_all c =
    let handed_on : c.from_residual.result ≡ Err c.in_err-free.field-0.0 = search rules in
    rw handed_on (turn_stops c.loop-cell.invariant.0 c.loop-cell-test.true c.take_cell.ensures.takes c.in_err-free.was)

pub loop-cell-preserved : goal.loop-cell-preserved
loop-cell-preserved c =
    let taking = c.take_cell in
    let inv = c.loop-cell.invariant in
    (turn_on inv.0 c.loop-cell-test.true taking.ensures.takes c.in_ok-free.was taking.auto.rows taking.auto.vacant, taking.auto.rows ∙ inv.1, memory_on inv.2 taking.ensures.same_memory)

pub returns-clause-takes_all : goal.returns-clause-takes_all
returns-clause-takes_all c = turn_end c.loop-cell.invariant.0 c.loop-cell-test.false
