-- `wire::columns::encode_state` meets its contract: each column is written behind the one before. Assumes nothing.
use Rattle.wire.proofs.Encoding.{state_written}
use Rattle.wire.proofs.columns.encode_state.Goals as goal

pub returns : goal.returns
returns c =
    state_written c.requires c.encode.ensures c.encode-2.ensures c.encode-3.ensures c.encode-4.ensures c.encode-5.ensures c.encode-6.ensures c.encode-7.ensures
    c.encode-8.ensures c.encode-9.ensures c.encode-10.ensures c.encode-11.ensures
