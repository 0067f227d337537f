-- `byte_limits::arrays::decode_in` meets its contract: the state, decoded into cleared columns of its sizes. Assumes nothing.
use mathlib.Core.Path.{sym, ◌∙◌, ap, subst}
use Rattle.scope.specs.Memory.{Memory}
use Rattle.wire.specs.Sizes.{StateRoom, state_like}
use Rattle.byte_limits.proofs.Rooms.{cleared_room, decoded_like}
use Rattle.byte_limits.proofs.arrays.decode_in.Goals as goal

pub decode_state-requires : goal.decode_state-requires
decode_state-requires c =
    let s = c.args.sizes in let b = c.args.bytes.now in
    subst (StateRoom b) (sym c.lend-memory.ensures) (cleared_room s.rows s.slots s.places b c.requires.fits.whole)

pub returns : goal.returns
returns c =
    let s = c.args.sizes in let b = c.args.bytes.now in
    c.decode_state.ensures.decoded ∙ ap (λ (m : Memory). state_like m b) c.lend-memory.ensures ∙ decoded_like s.rows s.slots s.places b c.requires.fits.whole
