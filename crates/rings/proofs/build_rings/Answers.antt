-- `build_rings` meets its contract. By whether the outputs have room.
-- Assumes nothing.
use mathlib.Core.Path.{sym, ◌∙◌}
use Rattle.rings.proofs.Building.{room_is, build_write, built_written, built_refused}
use Rattle.rings.proofs.build_rings.Goals as goal

pub write_rings-requires : goal.write_rings-requires
write_rings-requires c =
    build_write c.requires c.count_rings-counts.ensures (sym (room_is c.requires c.count_rings-counts.ensures c.has_room.ensures) ∙ c.if-has_room.true)

pub returns-then-has_room-clause-built : goal.returns-then-has_room-clause-built
returns-then-has_room-clause-built c =
    built_written c.requires c.count_rings-counts.ensures (sym (room_is c.requires c.count_rings-counts.ensures c.has_room.ensures) ∙ c.if-has_room.true) c.write_rings.ensures

pub returns-else-has_room-clause-built : goal.returns-else-has_room-clause-built
returns-else-has_room-clause-built c =
    built_refused c.requires c.count_rings-counts.ensures (sym (room_is c.requires c.count_rings-counts.ensures c.has_room.ensures) ∙ c.if-has_room.false) c.clear.ensures
