-- `dissolving::finish` meets its contract. Read out where the verdict accepts; refused, opened anew.
-- Assumes nothing.
use mathlib.Core.Path.{sym, ◌∙◌}
use Rattle.lent.specs.Lent.{table_of, memory_of, output_of}
use Rattle.lent.proofs.Same.{state_is}
use Rattle.dissolving.proofs.Finishing.{finished, finished_anew}
use Rattle.dissolving.proofs.finish.Goals as goal

pub returns-then-is_err-clause-finishes : goal.returns-then-is_err-clause-finishes
returns-then-is_err-clause-finishes c =
    let a = c.args in
    finished_anew a.verdict (table_of a.table.now) a.mode (memory_of a.memory.now a.marks.now) (output_of a.output.now) (rw (state_is a.marks.now c.as_state.ensures, state_is c.read_if-answer.new.marks c.as_state.ensures) at c.read_if-answer.ensures.reads_if) (sym c.is_err.ensures.value ∙ c.if-is_err.true) c.«open».ensures.opened

pub returns-else-is_err-clause-finishes : goal.returns-else-is_err-clause-finishes
returns-else-is_err-clause-finishes c =
    let a = c.args in
    finished a.verdict (table_of a.table.now) a.mode (memory_of a.memory.now a.marks.now) (output_of a.output.now) (rw (state_is a.marks.now c.as_state.ensures, state_is c.read_if-answer.new.marks c.as_state.ensures) at c.read_if-answer.ensures.reads_if) (sym c.is_err.ensures.value ∙ c.if-is_err.false)
