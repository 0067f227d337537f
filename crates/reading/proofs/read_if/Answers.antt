-- `reading::read_if` meets its contract. The refusal is handed on, or the rings are built.
-- Assumes nothing.
use mathlib.Core.Path.{◌≡◌}
use Rattle.std.proofs.Common.{rules, Err}
use Rattle.lent.specs.Lent.{table_of, state_of, output_of}
use Rattle.reading.proofs.Readings.{read_refused, read_built}
use Rattle.reading.proofs.read_if.Goals as goal

pub returns-in_err-verdict-clause-reads_if : goal.returns-in_err-verdict-clause-reads_if
returns-in_err-verdict-clause-reads_if c =
    let handed_on : c.from_residual.result ≡ Err c.in_err-verdict.field-0.0 = search rules in
    let a = c.args in
    rw handed_on (read_refused a.verdict (table_of a.table.now) (state_of a.state.now a.marks.now) (output_of a.output.now) c.in_err-verdict.was)

pub returns-clause-reads_if : goal.returns-clause-reads_if
returns-clause-reads_if c =
    let a = c.args in
    read_built a.verdict (table_of a.table.now) (state_of a.state.now a.marks.now) (output_of a.output.now) c.in_ok-verdict.was c.held.ensures.0 c.build_rings.ensures.built
