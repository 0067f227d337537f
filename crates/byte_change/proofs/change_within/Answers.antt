-- `byte_change::change_within` meets its contract: a change keeps the lengths, so that its state has room in the bytes.
-- Assumes nothing.
use mathlib.Core.Path.{sym, subst}
use Rattle.scope.specs.Table.{Table}
use Rattle.scope.specs.Memory.{Memory}
use Rattle.lent.proofs.Same.{read_is}
use Rattle.wire.specs.Sizes.{StateRoom}
use Rattle.byte_limits.proofs.Rooms.{decoded_room, room_kept}
use Rattle.byte_change.specs.Changing.{changing}
use Rattle.byte_change.proofs.Changes.{stored}
use Rattle.byte_change.proofs.change_within.Goals as goal

pub store-requires : goal.store-requires
store-requires c =
    let a = c.args in let b = a.state.now in
    let decoded = subst (StateRoom b) (sym c.decode_in-memory.ensures) (decoded_room _ a.slots a.places b c.requires.whole) in
    rw (read_is c.as_state.ensures c.as_marked.ensures) (room_kept decoded c.make-verdict.ensures.same_memory c.make-verdict.ensures.same_marks)

pub returns : goal.returns
returns c =
    stored (λ (t : Table) (m : Memory). changing t m c.args.change) c.args.state.now c.decode.ensures c.decode_in-memory.ensures c.make-verdict.ensures.made
    c.store.ensures.result (rw (read_is c.as_state.ensures c.as_marked.ensures) at c.store.ensures.stored)
