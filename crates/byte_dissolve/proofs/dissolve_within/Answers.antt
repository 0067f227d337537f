-- `byte_dissolve::dissolve_within` meets its contract: what is read out has room in the outputs, and is shown.
-- Assumes nothing.
use mathlib.Core.Path.{◌∙◌}
use Rattle.scope.specs.Bytes.{rows_in}
use Rattle.scope.proofs.ReadRoom.{dissolve_room}
use Rattle.lent.proofs.Same.{drawn_is}
use Rattle.byte_limits.proofs.Outputs.{outputs_cleared, long_kept, shown_room, shown_is}
use Rattle.byte_dissolve.proofs.Decoded.{dissolve_decoded}
use Rattle.byte_dissolve.proofs.dissolve_within.Goals as goal

pub show-requires : goal.show-requires
show-requires c =
    let a = c.args in let n = rows_in a.table.now in
    let lent = c.lend-output.ensures ∙ outputs_cleared n in
    let e = c.dissolve-answer.ensures.dissolves ∙ dissolve_decoded a.mode c.decode.ensures c.lend-memory.ensures c.decode_cells.ensures lent in
    rw (drawn_is c.as_drawn.ensures) (shown_room e n c.requires.few_rows (dissolve_room _ _ _ _ _) (long_kept n lent c.dissolve-answer.ensures.same_output))

pub returns : goal.returns
returns c =
    let a = c.args in let n = rows_in a.table.now in
    let lent = c.lend-output.ensures ∙ outputs_cleared n in
    let e = c.dissolve-answer.ensures.dissolves ∙ dissolve_decoded a.mode c.decode.ensures c.lend-memory.ensures c.decode_cells.ensures lent in
    shown_is e a.out.now (rw (drawn_is c.as_drawn.ensures) at c.show.ensures.result) (rw (drawn_is c.as_drawn.ensures) at c.show.ensures.written)
