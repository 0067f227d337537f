-- `standing::read_out` meets its contract. Its tests, and the reading behind them.
-- Assumes nothing.
use mathlib.Core.Path.{◌∙◌, ap}
use Rattle.scope.specs.Memory.{outputs_agree}
use Rattle.lent.specs.Lent.{table_of, state_of, output_of}
use Rattle.lent.proofs.Same.{marked_is, drawn_is}
use Rattle.standing.proofs.ReadOuts.{readable, read_out_is}
use Rattle.standing.proofs.read_out.Goals as goal

pub read_if-requires : goal.read_if-requires
read_if-requires c =
    let agree = c.outputs_agree-agree.ensures ∙ ap outputs_agree (drawn_is c.as_drawn.ensures) in
    readable (table_of c.args.table.now) (state_of c.args.state.now c.args.marks.now) (output_of c.args.output.now) agree (rw (marked_is c.args.state.now c.as_marked.ensures) at c.state_verdict-verdict.ensures)

pub returns-clause-reads_out : goal.returns-clause-reads_out
returns-clause-reads_out c =
    let agree = c.outputs_agree-agree.ensures ∙ ap outputs_agree (drawn_is c.as_drawn.ensures) in
    read_out_is (table_of c.args.table.now) (state_of c.args.state.now c.args.marks.now) (output_of c.args.output.now) agree (rw (marked_is c.args.state.now c.as_marked.ensures) at c.state_verdict-verdict.ensures) c.read_if.ensures.reads_if
