-- `admission::admit_verdict` meets its contract. The state, then the cell.
-- Assumes nothing.
use mathlib.Core.Path.{◌≡◌, ◌∙◌}
use Rattle.std.proofs.Common.{rules, Err}
use Rattle.lent.specs.Lent.{table_of, read_of}
use Rattle.admission.proofs.Refusals.{admit_stops, admit_goes_on, cell_asks}
use Rattle.admission.proofs.admit_verdict.Goals as goal

pub returns-in_err-state_verdict : goal.returns-in_err-state_verdict
returns-in_err-state_verdict c =
    let handed_on : c.from_residual.result ≡ Err c.in_err-state_verdict.field-0.0 = search rules in
    handed_on ∙ admit_stops (table_of c.args.table.now) (read_of c.args.state.now c.args.marks.now) c.state_verdict.ensures c.args.cell c.in_err-state_verdict.was

pub cell_verdict-requires : goal.cell_verdict-requires
cell_verdict-requires c = cell_asks (table_of c.args.table.now) (read_of c.args.state.now c.args.marks.now) c.state_verdict.ensures c.in_ok-state_verdict.was

pub returns : goal.returns
returns c =
    c.cell_verdict.ensures ∙ admit_goes_on (table_of c.args.table.now) (read_of c.args.state.now c.args.marks.now) c.state_verdict.ensures c.args.cell c.in_ok-state_verdict.was
