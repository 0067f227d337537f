-- `standing::offer` meets its contract. Refused by a test before the outline, or the cell is taken.
-- Assumes nothing.
use mathlib.Core.Path.{◌≡◌}
use Rattle.std.proofs.Common.{rules, Err}
use Rattle.lent.specs.Lent.{table_of, memory_of}
use Rattle.lent.proofs.Same.{read_is}
use Rattle.standing.proofs.Offers.{offer_stops, offer_asks, offer_taken}
use Rattle.standing.proofs.offer.Goals as goal

pub returns-in_err-admitted-clause-offers : goal.returns-in_err-admitted-clause-offers
returns-in_err-admitted-clause-offers c =
    let handed_on : c.from_residual.result ≡ Err c.in_err-admitted.field-0.0 = search rules in
    rw handed_on (offer_stops (table_of c.args.table.now) (memory_of c.args.memory.now c.args.marks.now) c.args.cell (rw (read_is c.as_state.ensures c.as_marked.ensures) at c.admit_verdict-admitted.ensures) c.in_err-admitted.was)

pub take_with_marks-requires : goal.take_with_marks-requires
take_with_marks-requires c = offer_asks (table_of c.args.table.now) (memory_of c.args.memory.now c.args.marks.now) c.args.cell (rw (read_is c.as_state.ensures c.as_marked.ensures) at c.admit_verdict-admitted.ensures) c.in_ok-admitted.was

pub returns-clause-offers : goal.returns-clause-offers
returns-clause-offers c = offer_taken (table_of c.args.table.now) (memory_of c.args.memory.now c.args.marks.now) c.args.cell c.take_with_marks.ensures.takes_all
