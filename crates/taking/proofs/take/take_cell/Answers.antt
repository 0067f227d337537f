-- `taking::take::take_cell` meets its contract. The outline is looked up, tested, and added.
-- Assumes nothing.
use mathlib.Core.Path.{◌≡◌}
use native.Mathlib.Omega.{arith}
use Rattle.std.proofs.Common.{rules, Err}
use Rattle.taking.proofs.Taken.{outline_asks, not_taken, add_asks, is_taken, enough, free_fits}
use Rattle.taking.proofs.take.take_cell.Goals as goal

pub outline_rows-outlined-requires : goal.outline_rows-outlined-requires
outline_rows-outlined-requires c = outline_asks c.requires

pub returns-in_err-outline_verdict-clause-takes : goal.returns-in_err-outline_verdict-clause-takes
returns-in_err-outline_verdict-clause-takes c =
    let found = c.outline_rows-outlined.ensures in
    let handed_on : c.from_residual.result ≡ Err c.in_err-outline_verdict.field-0.0 = search rules in
    rw handed_on (not_taken c.requires found.0 c.outline_verdict.ensures c.held.ensures.0 found.1 c.in_err-outline_verdict.was)

pub add_edges-pairs-requires : goal.add_edges-pairs-requires
add_edges-pairs-requires c =
    let found = c.outline_rows-outlined.ensures in
    add_asks c.requires found.0 c.outline_verdict.ensures c.held.ensures.0 found.1 c.in_ok-outline_verdict.was

pub overflow_sub-result : goal.overflow_sub-result
overflow_sub-result c =
    let found = c.outline_rows-outlined.ensures in
    let e = enough c.requires found.0 c.outline_verdict.ensures c.held.ensures.0 found.1 c.in_ok-outline_verdict.was in
    omega arith

pub overflow_mul-result : goal.overflow_mul-result
overflow_mul-result c =
    let found = c.outline_rows-outlined.ensures in
    let added = c.add_edges-pairs.ensures in
    let e = free_fits c.requires found.0 c.outline_verdict.ensures c.held.ensures.0 found.1 c.in_ok-outline_verdict.was added.added added.same_memory.slot_row_length in
    omega (arith, e.0)

pub overflow_add-result : goal.overflow_add-result
overflow_add-result c =
    let found = c.outline_rows-outlined.ensures in
    let added = c.add_edges-pairs.ensures in
    let e = free_fits c.requires found.0 c.outline_verdict.ensures c.held.ensures.0 found.1 c.in_ok-outline_verdict.was added.added added.same_memory.slot_row_length in
    omega (arith, e.1)

pub returns-clause-takes : goal.returns-clause-takes
returns-clause-takes c =
    let found = c.outline_rows-outlined.ensures in
    is_taken c.requires found.0 c.outline_verdict.ensures c.held.ensures.0 found.1 c.in_ok-outline_verdict.was c.add_edges-pairs.ensures.added
