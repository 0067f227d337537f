-- What the search by halving finds: how many rows have an edge below a bound.
-- Assumes nothing.
use Rattle.std.specs.Prelude.{ℕ, ◌<◌, ◌≤◌, List, length}
use Rattle.scope.specs.Lists.{at}

pub record RowsBelow (es : List ℕ) (bound r : ℕ) : Type 0 where
  pub within : r ≤ length es
  pub below : (k : ℕ) → k < r → at es k < bound
  pub above : (k : ℕ) → r ≤ k → k < length es → bound ≤ at es k
