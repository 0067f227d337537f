-- `standing::open` meets its contract. The pool is opened where both tests accept.
-- Assumes nothing.
use mathlib.Core.Path.{◌≡◌}
use Rattle.std.proofs.Common.{rules, Err}
use Rattle.lent.specs.Lent.{table_of, memory_of}
use Rattle.lent.proofs.Same.{read_is}
use Rattle.standing.proofs.Opening.{head_two, opens, opens_not}
use Rattle.standing.proofs.open.Goals as goal

pub returns-in_err-allowed-clause-opens : goal.returns-in_err-allowed-clause-opens
returns-in_err-allowed-clause-opens c =
    let handed_on : c.from_residual.result ≡ Err c.in_err-allowed.field-0.0 = search rules in
    rw handed_on (opens_not (table_of c.args.table.now) (memory_of c.args.memory.now c.args.marks.now) c.args.mode (rw (read_is c.as_state.ensures c.as_marked.ensures) at c.lengths_fit-fits.ensures) c.open_verdict-allowed.ensures c.in_err-allowed.was)

pub open-requires : goal.open-requires
open-requires c = head_two (table_of c.args.table.now) (memory_of c.args.memory.now c.args.marks.now) c.args.mode (rw (read_is c.as_state.ensures c.as_marked.ensures) at c.lengths_fit-fits.ensures) c.open_verdict-allowed.ensures c.in_ok-allowed.was

pub returns-clause-opens : goal.returns-clause-opens
returns-clause-opens c = opens (table_of c.args.table.now) (memory_of c.args.memory.now c.args.marks.now) c.args.mode (rw (read_is c.as_state.ensures c.as_marked.ensures) at c.lengths_fit-fits.ensures) c.open_verdict-allowed.ensures c.in_ok-allowed.was c.«open».ensures.opened
