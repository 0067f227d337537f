-- `walk_levels::start::edge_count` meets its contract: 3^15 is small.
-- Assumes nothing.
use native.Mathlib.Omega.{arith}
use Rattle.walk_levels.proofs.StartLaws.{three_le, count_le}
use Rattle.walk_levels.proofs.start.edge_count.Goals as goal

pub pow-requires : goal.pow-requires
pow-requires c = omega (arith, three_le c.args.delta c.requires.1)

pub overflow_mul-result : goal.overflow_mul-result
overflow_mul-result c = rw c.pow.ensures (omega (arith, count_le c.args.sides c.args.delta c.requires.0 c.requires.1))
