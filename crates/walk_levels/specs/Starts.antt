-- The start of a walk: c is the cell's resolution, t the target, k the side at which it begins.
-- Assumes nothing.
use Rattle.std.specs.Prelude.{◌≡◌, true, ◌&&◌, cond, List, ℕ, ◌+◌, ◌*◌, ◌%◌, ◌<◌, ◌≤◌, leb, ltb, replicate}
use Rattle.scope.specs.Lists.{tabulate}
use Rattle.scope.specs.Cells.{resolution_of, valid_cell}
use Rattle.scope.specs.Walk.{Walk, edge_at, first_position}

-- The position of level r at the start of a walk that begins k sides on: 3 positions a side.
abbrev pub start_position : ℕ → ℕ → ℕ → ℕ
start_position k c r = (first_position c r + 3 * k) % 18

unfoldable pub start_walk : ℕ → ℕ → ℕ → Walk
start_walk k c t =
    record {
      positions = tabulate (λ r. cond (ltb c r && leb r t) (start_position k c r) 0) 16;
      edge_position = k;
    }

pub record StartAsks (ps : List ℕ) (x c t k : ℕ) : Type 0 where
  pub cleared : ps ≡ replicate 16 0
  pub valid : valid_cell x ≡ true
  pub own : c ≡ resolution_of x
  pub down : c ≤ t
  pub deep : t ≤ 15
  pub past : k < 2

pub record Starts (ps : List ℕ) (x c t k e : ℕ) : Type 0 where
  pub positions : ps ≡ (start_walk k c t).positions
  pub edge : e ≡ edge_at x c t (start_walk k c t)
