-- `table_bytes::read_table` meets its contract. By whether the rows fit.
-- Assumes nothing.
use Rattle.std.proofs.Common.{rules, ◌≡◌, Err, sym, ◌∙◌}
use Rattle.scope.specs.Table.{table}
use Rattle.table_bytes.proofs.Rows.{in_room, fits, room_is, table_read, table_refused}
use Rattle.table_bytes.proofs.read_table.Goals as goal

pub returns-in_err-rows : goal.returns-in_err-rows
returns-in_err-rows c =
    let e : c.from_residual.result ≡ Err c.in_err-rows.field-0.0 = search rules in
    let t = table c.args.edges.now c.args.reverse.now c.args.area.now in
    rw e (table_refused _ t (room_is t c.min.ensures c.min-room.ensures) (sym c.file_of.ensures ∙ c.in_err-rows.was))

pub decode_rows-requires : goal.decode_rows-requires
decode_rows-requires c =
    let t = table c.args.edges.now c.args.reverse.now c.args.area.now in
    in_room _ t (room_is t c.min.ensures c.min-room.ensures) (fits _ _ (sym c.file_of.ensures ∙ c.in_ok-rows.was))

pub returns : goal.returns
returns c =
    let t = table c.args.edges.now c.args.reverse.now c.args.area.now in
    table_read _ t (room_is t c.min.ensures c.min-room.ensures) (sym c.file_of.ensures ∙ c.in_ok-rows.was) c.decode_rows.ensures
