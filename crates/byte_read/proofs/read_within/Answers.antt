-- `byte_read::read_within` meets its contract: what is read out has room in the outputs, and is shown.
-- Assumes nothing.
use mathlib.Core.Path.{◌∙◌}
use Rattle.scope.specs.Bytes.{rows_in}
use Rattle.scope.proofs.ReadRoom.{read_room}
use Rattle.lent.proofs.Same.{state_is, drawn_is}
use Rattle.byte_limits.proofs.Outputs.{outputs_cleared, long_kept, shown_room, shown_is}
use Rattle.byte_limits.proofs.Rooms.{table_rows}
use Rattle.byte_read.proofs.Readings.{read_decoded}
use Rattle.byte_read.proofs.read_within.Goals as goal

pub show-requires : goal.show-requires
show-requires c =
    let a = c.args in let n = rows_in a.table.now in
    let lent = c.lend-output.ensures ∙ outputs_cleared n in let decoded = state_is c.decode_in-memory.result.1 c.as_state.ensures ∙ c.decode_in-memory.ensures in
    let e = c.read_out-answer.ensures.reads_out ∙ read_decoded a.table.now c.decode.ensures decoded lent in
    rw (drawn_is c.as_drawn.ensures) (shown_room e n c.requires.few_rows (rw (← table_rows a.table.now) (read_room _ _ _)) (long_kept n lent c.read_out-answer.ensures.same_output))

pub returns : goal.returns
returns c =
    let a = c.args in let n = rows_in a.table.now in
    let lent = c.lend-output.ensures ∙ outputs_cleared n in let decoded = state_is c.decode_in-memory.result.1 c.as_state.ensures ∙ c.decode_in-memory.ensures in
    let e = c.read_out-answer.ensures.reads_out ∙ read_decoded a.table.now c.decode.ensures decoded lent in
    shown_is e a.out.now (rw (drawn_is c.as_drawn.ensures) at c.show.ensures.result) (rw (drawn_is c.as_drawn.ensures) at c.show.ensures.written)
