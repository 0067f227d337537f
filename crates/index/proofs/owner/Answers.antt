-- `index::owner` meets its contract. The subtractions are those of `owner_of`; below mode 1 both answer 0.
-- Assumes nothing.
use native.Mathlib.Omega.{arith}
use Rattle.scope.specs.Cells.{owner_of}
use Rattle.index.proofs.owner.Goals as goal

pub returns-then-x-lt576460752303423488 : goal.returns-then-x-lt576460752303423488
unfolding owner_of
returns-then-x-lt576460752303423488 c = omega arith

pub returns : goal.returns
unfolding owner_of
returns c = rw c.edge_number.ensures
