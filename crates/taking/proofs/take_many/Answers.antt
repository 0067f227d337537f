-- `taking::take_many` meets its contract. There is room for the rows of every table.
-- Assumes nothing.
use native.Mathlib.Omega.{arith}
use Rattle.scope.proofs.Sound.{sound_table}
use Rattle.taking.proofs.Rooms.{room_all}
use Rattle.taking.proofs.take_many.Goals as goal

pub take_list-requires : goal.take_list-requires
take_list-requires c =
    let p = c.requires in
    record { asks = p; room = λ i h. room_all (omega (arith, (sound_table p.sound).most, c.blank-2.ensures)) }
