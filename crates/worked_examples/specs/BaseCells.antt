-- The cells of resolution 0, of which there is one for each base cell.
-- Assumes nothing.
use Rattle.std.specs.Prelude.{ℕ, ◌+◌, ◌-◌, ◌*◌, ◌^◌, List}
use Rattle.scope.specs.Lists.{tabulate}

-- Mode 1, resolution 0, the base cell, and fifteen digits of 7.
abbrev pub of_base : ℕ → ℕ
of_base b = 2 ^ 59 + b * 2 ^ 45 + (2 ^ 45 - 1)

-- Base cells 0 to 121.
unfoldable pub all_of_base : List ℕ
all_of_base = tabulate of_base 122
