-- The rings listed: the lowest row of each is marked 2, and no other row is.
-- Assumes nothing.
use Rattle.std.specs.Prelude.{ℕ, ◌≤◌, ◌≡◌, List, eqb, length, take, drop}
use Rattle.scope.specs.Lists.{at, below}

-- the rows that are marked 2, ascending
abbrev pub twos_below : List ℕ → ℕ → List ℕ
twos_below mark m = below (λ x. eqb (at mark x) 2) m

pub record ListReady (mark out : List ℕ) : Type 0 where
  pub few : length mark ≤ 65536
  pub room : length (twos_below mark (length mark)) ≤ length out

pub record Listed (mark out out' : List ℕ) : Type 0 where
  pub wrote : take (length (twos_below mark (length mark))) out' ≡ twos_below mark (length mark)
  pub behind : drop (length (twos_below mark (length mark))) out' ≡ drop (length (twos_below mark (length mark))) out
  pub len : length out' ≡ length out
