-- `taking::take_all` meets its contract. There is room for the rows in a short array where few suffice.
-- Assumes nothing.
use native.Mathlib.Omega.{arith}
use mathlib.Core.Path.{sym, ◌∙◌}
use Prim.Native.Nat.{ℕ}
use lib.ListN.{length-replicate}
use Rattle.scope.proofs.Sound.{sound_table}
use Rattle.taking.proofs.Rooms.{room_few}
use Rattle.taking.proofs.take_all.Goals as goal

pub few_suffice-requires : goal.few_suffice-requires
few_suffice-requires c = omega (arith, (sound_table c.requires.sound).two)

pub take_list-requires : goal.take_list-requires
take_list-requires c =
    let a = c.args in
    let few = sym c.few_suffice.ensures ∙ c.if-few_suffice.true in
    record { asks = c.requires; room = room_few a.table.now.edges.now a.list.now few (omega (arith, length-replicate {A = ℕ} 4096 0)) }
