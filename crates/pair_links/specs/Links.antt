-- Two slots leave their rings and are free again, store by store.
-- Assumes nothing.
use Rattle.std.specs.Prelude.{◌≡◌, List, [], ℕ, ◌<◌, ◌≤◌, ◌^◌, length, set}
use Rattle.scope.specs.Lists.{at}
use Rattle.scope.specs.Memory.{Memory, memory, slots}

-- x and y exchange their nexts
unfoldable pub swap_next : List ℕ → ℕ → ℕ → List ℕ
swap_next next x y = set (set next x (at next y)) y (at next x)

unfoldable pub swap_prev : List ℕ → List ℕ → ℕ → ℕ → List ℕ
swap_prev next prev x y = set (set prev (at next y) x) (at next x) y

-- x is taken out of its ring
unfoldable pub drop_next : List ℕ → List ℕ → ℕ → List ℕ
drop_next next prev x = set next (at prev x) (at next x)

unfoldable pub drop_prev : List ℕ → List ℕ → ℕ → List ℕ
drop_prev next prev x = set prev (at next x) (at prev x)

-- the nexts of the pair exchanged, then each taken out
unfoldable pub pair_next : List ℕ → List ℕ → ℕ → ℕ → List ℕ
pair_next next prev x y =
    let n₁ = swap_next next x y in
    let p₁ = swap_prev next prev x y in
    drop_next (drop_next n₁ p₁ x) (drop_prev n₁ p₁ x) y

unfoldable pub pair_prev : List ℕ → List ℕ → ℕ → ℕ → List ℕ
pair_prev next prev x y =
    let n₁ = swap_next next x y in
    let p₁ = swap_prev next prev x y in
    drop_prev (drop_next n₁ p₁ x) (drop_prev n₁ p₁ x) y

-- the numbers at two places are cleared
unfoldable pub clear_two : List ℕ → ℕ → ℕ → List ℕ
clear_two l x y = set (set l x 0) y 0

-- Every link is in range, also of a free slot, whose links are 0.
pub record Closed (prev next : List ℕ) : Type 0 where
  pub even : length prev ≡ length next
  pub next_below : (i : ℕ) → i < length next → at next i < length next
  pub prev_below : (i : ℕ) → i < length prev → at prev i < length prev
  pub fits : length next ≤ 2 ^ 32

-- ---- the slots

-- The pool of a state, the rest of it left out.
abbrev pub pool : List ℕ → List ℕ → List ℕ → List ℕ → List ℕ → List ℕ → List ℕ → Memory
pool parent rank slot_row slot_cell prev next row_slot = memory [] [] parent rank [] slot_row slot_cell prev next row_slot []

pub record FreeAsks (m : Memory) (x y row back : ℕ) : Type 0 where
  pub x_in : x < slots m
  pub y_in : y < slots m
  pub row_in : row < length m.row_slot
  pub back_in : back < length m.row_slot
  pub even_cell : length m.slot_cell ≡ slots m
  pub even_prev : length m.prev ≡ slots m
  pub even_next : length m.next ≡ slots m

-- The slots x and y are free again: their four numbers are cleared, and so are the slots of their rows.
pub record Freed (m : Memory) (x y row back : ℕ) (m' : Memory) : Type 0 where
  pub slot_row : m'.slot_row ≡ clear_two m.slot_row x y
  pub slot_cell : m'.slot_cell ≡ clear_two m.slot_cell x y
  pub prev : m'.prev ≡ clear_two m.prev x y
  pub next : m'.next ≡ clear_two m.next x y
  pub row_slot : m'.row_slot ≡ clear_two m.row_slot row back
