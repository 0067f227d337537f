-- Document 01, "Cells and edges as numbers".
-- Assumes nothing.
use Rattle.std.specs.Prelude.{ℕ, ◌-◌, ◌*◌, ◌/◌, ◌%◌, ◌^◌, Bool, true, false, ◌&&◌, ◌||◌, not, cond, List, [], ◌∷◌, eqb, leb, ltb}
use Rattle.scope.specs.Lists.{all, member}

-- Bits 59 to 62 mode (1 cell, 2 directed edge); 56 to 58 edge number; 52 to 55 resolution; 45 to 51 base cell.
abbrev pub mode_of : ℕ → ℕ
mode_of x = x / 2 ^ 59 % 16

abbrev pub edge_number : ℕ → ℕ
edge_number x = x / 2 ^ 56 % 8

abbrev pub resolution_of : ℕ → ℕ
resolution_of x = x / 2 ^ 52 % 16

abbrev pub base_cell : ℕ → ℕ
base_cell x = x / 2 ^ 45 % 128

-- Then fifteen 3-bit digits, the digit of resolution r at bit 3·(15 − r).
abbrev pub weight : ℕ → ℕ
weight r = 2 ^ (3 * (15 - r))

abbrev pub digit : ℕ → ℕ → ℕ
digit x r = x / weight r % 8

-- Digits up to its resolution 0 to 6, later digits 7.
abbrev pub digit_fits : ℕ → ℕ → Bool
digit_fits x r = cond (leb r (resolution_of x)) (ltb (digit x r) 7) (eqb (digit x r) 7)

-- Valid cell: bit 63 zero, mode 1, edge bits 0, base cell at most 121, digits as above.
unfoldable pub valid_cell : ℕ → Bool
valid_cell x = ltb x (2 ^ 63) && eqb (mode_of x) 1 && eqb (edge_number x) 0 && leb (base_cell x) 121 && all (digit_fits x) 15

-- Pentagon: base cell 4, 14, 24, 38, 49, 58, 63, 72, 83, 97, 107 or 117, and all its digits 0.
abbrev pub pentagon_base_cells : List ℕ
pentagon_base_cells = 4 ∷ 14 ∷ 24 ∷ 38 ∷ 49 ∷ 58 ∷ 63 ∷ 72 ∷ 83 ∷ 97 ∷ 107 ∷ 117 ∷ []

abbrev pub digit_zero : ℕ → ℕ → Bool
digit_zero x r = cond (leb r (resolution_of x)) (eqb (digit x r) 0) true

unfoldable pub is_pentagon : ℕ → Bool
is_pentagon x = member (base_cell x) pentagon_base_cells && all (digit_zero x) 15

-- An edge's owner: the number with mode 1 for mode 2, and edge bits 0.
unfoldable pub owner_of : ℕ → ℕ
owner_of x = x - 2 ^ 59 - edge_number x * 2 ^ 56

-- A valid edge is a valid cell (its owner) with mode 2 and edge number 1 to 6, not 1 for a pentagon.
unfoldable pub valid_edge : ℕ → Bool
valid_edge x =
    eqb (mode_of x) 2 && valid_cell (owner_of x) && leb 1 (edge_number x) && leb (edge_number x) 6
    && not (is_pentagon (owner_of x) && eqb (edge_number x) 1)

-- Cell a lies under b when b's resolution is lower, the base cells agree, and so do the digits up to b's resolution.
unfoldable pub under : ℕ → ℕ → Bool
under a b =
    ltb (resolution_of b) (resolution_of a) && eqb (base_cell a) (base_cell b)
    && all (λ r. ltb (resolution_of b) r || eqb (digit a r) (digit b r)) 15
