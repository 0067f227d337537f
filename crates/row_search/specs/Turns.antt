-- How many turns the search for a row takes.
-- Assumes nothing.
use Rattle.std.specs.Prelude.{ℕ, zero, suc, ◌*◌, ◌^◌, ◌<◌, ◌≤◌, leb}
use Rattle.scope.specs.Lists.{first_bad}

-- A turn of the search among n rows, of which there is one at least, leaves at most half of them, m.
pub record Turn (n m : ℕ) : Type 0 where
  pub some : 0 < n
  pub half : 2 * m ≤ n

-- k turns, one after the other, that begin with n rows.
abbrev pub Turns : ℕ → ℕ → Type 0
Turns zero n = Unit {0}
Turns (suc k) n = (m : ℕ) × Turn n m × Turns k m

-- How often n, a number of 64 bits, can be halved: the lowest k for which n is below 2 ^ k. It is the measure of the loop of `rows_below`.
unfoldable pub halvings : ℕ → ℕ
halvings n = first_bad (λ k. leb (2 ^ k) n) 65
