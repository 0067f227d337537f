-- Document 01, "The walk": the directed edges of a cell's outline at a target resolution, in order.
-- Throughout, c is the cell's resolution and t the target.
-- Assumes nothing.
use Rattle.std.specs.Prelude.{ℕ, zero, suc, ◌+◌, ◌-◌, ◌*◌, ◌%◌, ◌^◌, Bool, true, false, ◌&&◌, not, cond, List, [], ◌∷◌, eqb, leb, ltb, set}
use Rattle.scope.specs.Lists.{at, tabulate}
use Rattle.scope.specs.Cells.{resolution_of, base_cell, digit, is_pentagon}

-- Tables: walk digits and edge directions.
abbrev pub walk_digits : List ℕ
walk_digits = 1 ∷ 1 ∷ 1 ∷ 5 ∷ 5 ∷ 5 ∷ 4 ∷ 4 ∷ 4 ∷ 6 ∷ 6 ∷ 6 ∷ 2 ∷ 2 ∷ 2 ∷ 3 ∷ 3 ∷ 3 ∷ []

abbrev pub edge_directions : List ℕ
edge_directions = 3 ∷ 1 ∷ 5 ∷ 4 ∷ 6 ∷ 2 ∷ []

abbrev pub walk_digit : ℕ → ℕ
walk_digit p = at walk_digits p

abbrev pub edge_direction : ℕ → ℕ
edge_direction e = at edge_directions e

-- The walk keeps one position for each of 16 resolutions, and the edge position.
pub record Walk : Type 0 where
  pub positions : List ℕ
  pub edge_position : ℕ

-- What moving a level gives: the positions, and whether the level's digit changed.
pub record Moved : Type 0 where
  pub positions : List ℕ
  pub changed : Bool

abbrev pub still : List ℕ → Moved
still ps = record { positions = ps; changed = false }

-- When that parent's digit changes, it goes back 6 positions; then it steps by 1, all modulo 18.
abbrev pub next_position : ℕ → Bool → ℕ
next_position p b = (p + cond b 12 0 + 1) % 18

-- The step of level r, after its parent level: m says whether the parent's digit changed, and the answer whether this level's did.
unfoldable pub level_step : ℕ → Moved → Moved
level_step r m =
    let p = at m.positions r in
    let q = next_position p m.changed in
    record { positions = set m.positions r q; changed = not (eqb (walk_digit q) (walk_digit p)) }

-- A level moves its parent level first when position mod 3 equals resolution mod 2 and the parent level is finer than the cell.
abbrev pub asks_parent : ℕ → ℕ → List ℕ → Bool
asks_parent c r ps = ltb (c + 1) r && eqb (at ps r % 3) (r % 2)

unfoldable pub move : ℕ → ℕ → List ℕ → Moved
move c zero ps = still ps
move c (suc r) ps = let m = move c r ps in level_step (suc r) (cond (asks_parent c (suc r) ps) m (still ps))

-- When the finest digit changed, the edge position goes back 2; then it steps by 1, modulo 6.
abbrev pub next_edge_position : ℕ → Bool → ℕ
next_edge_position e b = (e + cond b 4 0 + 1) % 6

-- One step of the walk: the finest level moves, then the edge position. At delta 0 there is no level to move.
unfoldable pub step : ℕ → ℕ → Walk → Walk
step c t w =
    let m = cond (ltb c t) (move c t w.positions) (still w.positions) in
    record { positions = m.positions; edge_position = next_edge_position w.edge_position m.changed }

-- The first child level starts at walk position 0; deeper levels at 14 (odd resolution) or 16 (even).
abbrev pub first_position : ℕ → ℕ → ℕ
first_position c r = cond (ltb (c + 1) r) (cond (eqb (r % 2) 1) 14 16) 0

-- The edge position starts at 0. A resolution past the target has no level, and its position is 0.
unfoldable pub first_walk : ℕ → ℕ → Walk
first_walk c t = record { positions = tabulate (λ r. cond (leb r t) (first_position c r) 0) 16; edge_position = 0 }

-- The digit of resolution r of the walk's edge: the cell's own, the walk's, and 7 past the target.
abbrev pub walked_digit : ℕ → ℕ → ℕ → Walk → ℕ → ℕ
walked_digit x c t w r = cond (leb r c) (digit x r) (cond (leb r t) (walk_digit (at w.positions r)) 7)

-- The number that starts with h and goes on by the digits of resolution 1 to n.
unfoldable pub spell : ℕ → (ℕ → ℕ) → ℕ → ℕ
spell h f zero = h
spell h f (suc n) = spell h f n * 8 + f (suc n)

-- The walk's edge, by its fields: mode 2, the direction at the edge position, resolution t, the cell's base cell, the fifteen digits.
unfoldable pub edge_at : ℕ → ℕ → ℕ → Walk → ℕ
edge_at x c t w = spell (((2 * 8 + edge_direction w.edge_position) * 16 + t) * 128 + base_cell x) (walked_digit x c t w) 15

-- A pentagon passes over the steps whose first child digit is 1; at delta 0 it passes over edge 1.
unfoldable pub passed_over : Bool → ℕ → ℕ → Walk → Bool
passed_over p c t w = p && eqb (cond (ltb c t) (walk_digit (at w.positions (c + 1))) (edge_direction w.edge_position)) 1

-- The edges of n steps from w on.
unfoldable pub edges : Bool → ℕ → ℕ → ℕ → ℕ → Walk → List ℕ
edges p x c t zero w = []
edges p x c t (suc n) w =
    let es = edges p x c t n (step c t w) in
    let whole = edge_at x c t w ∷ es in
    cond (passed_over p c t w) es whole

-- With delta = target − cell resolution the walk takes 6·3^delta steps, none where the target is coarser.
unfoldable pub outline : ℕ → ℕ → List ℕ
outline x t =
    let c = resolution_of x in
    let es = edges (is_pentagon x) x c t (6 * 3 ^ (t - c)) (first_walk c t) in
    cond (leb c t) es []
