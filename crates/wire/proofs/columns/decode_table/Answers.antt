-- `wire::columns::decode_table` meets its contract: three columns, each as long as there are rows. Assumes nothing.
use Rattle.wire.proofs.Decoding.{table_in_lem}
use Rattle.wire.proofs.columns.decode_table.Goals as goal

pub returns : goal.returns
returns c =
    table_in_lem c.args.bytes.now c.requires c.decode.ensures c.decode-2.ensures c.decode-3.ensures
