-- `wire::columns::decode_state` meets its contract: each column is filled from its place. Assumes nothing.
use Rattle.wire.proofs.Decoding.{state_in_lem}
use Rattle.wire.proofs.columns.decode_state.Goals as goal

pub returns-clause-decoded : goal.returns-clause-decoded
returns-clause-decoded c =
    state_in_lem c.requires c.decode.ensures c.decode-2.ensures c.decode-3.ensures c.decode-4.ensures c.decode-5.ensures c.decode-6.ensures c.decode-7.ensures
    c.decode-8.ensures c.decode-9.ensures c.decode-10.ensures c.decode-11.ensures
