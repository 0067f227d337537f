-- `row_search::notes::spread` meets its contract. The same operations, and a remainder.
-- Assumes nothing.
use native.Mathlib.Omega.{arith}
use Rattle.row_search.specs.Notes.{spread_of}
use Rattle.row_search.proofs.notes.spread.Goals as goal

pub returns : goal.returns
unfolding spread_of
returns c = (rw c.resolution.ensures, omega arith)
