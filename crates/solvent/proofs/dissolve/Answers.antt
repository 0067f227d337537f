-- `solvent::dissolve` meets its contract. Refused by its list checks, or the work.
-- Assumes nothing.
use mathlib.Core.Path.{◌≡◌, ◌∙◌, ap}
use Rattle.std.proofs.Common.{rules, Err}
use Rattle.scope.specs.Memory.{outputs_agree}
use Rattle.lent.specs.Lent.{table_of, memory_of, output_of}
use Rattle.lent.proofs.Same.{read_is, drawn_is}
use Rattle.solvent.proofs.Dissolves.{work_asks, dissolved, not_dissolved}
use Rattle.solvent.proofs.dissolve.Goals as goal

pub returns-in_err-list_verdict-clause-dissolves : goal.returns-in_err-list_verdict-clause-dissolves
returns-in_err-list_verdict-clause-dissolves c =
    let a = c.args in
    let agree = c.outputs_agree.ensures ∙ ap outputs_agree (drawn_is c.as_drawn.ensures) in
    let handed_on : c.from_residual.result ≡ Err c.in_err-list_verdict.field-0.0 = search rules in
    rw handed_on (not_dissolved (table_of a.table.now) (memory_of a.memory.now a.marks.now) a.mode a.list.now (output_of a.output.now) agree (rw (read_is c.as_state.ensures c.as_marked.ensures) at c.lengths_fit.ensures) c.places.ensures c.list_verdict.ensures c.in_err-list_verdict.was)

pub work-requires : goal.work-requires
work-requires c =
    let a = c.args in
    let agree = c.outputs_agree.ensures ∙ ap outputs_agree (drawn_is c.as_drawn.ensures) in
    work_asks (table_of a.table.now) (memory_of a.memory.now a.marks.now) a.mode a.list.now (output_of a.output.now) agree (rw (read_is c.as_state.ensures c.as_marked.ensures) at c.lengths_fit.ensures) c.places.ensures c.list_verdict.ensures c.in_ok-list_verdict.was

pub returns-clause-dissolves : goal.returns-clause-dissolves
returns-clause-dissolves c =
    let a = c.args in
    let agree = c.outputs_agree.ensures ∙ ap outputs_agree (drawn_is c.as_drawn.ensures) in
    dissolved (table_of a.table.now) (memory_of a.memory.now a.marks.now) a.mode a.list.now (output_of a.output.now) agree (rw (read_is c.as_state.ensures c.as_marked.ensures) at c.lengths_fit.ensures) c.places.ensures c.list_verdict.ensures c.in_ok-list_verdict.was c.work.ensures.works
