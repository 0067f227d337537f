-- Rows, slots and links as the ring functions ask for them: the part of the state's rules that makes the next rows go round.
-- Assumes nothing.
use Rattle.std.specs.Prelude.{ℕ, ◌+◌, ◌-◌, ◌≤◌, ◌≡◌, Bool, ◌≢◌, List, [], ◌∷◌, ◌++◌, length}
use Rattle.scope.specs.Lists.{at, below}
use Rattle.scope.specs.Afresh.{ring, starts_ring}
use Rattle.scope.specs.Order.{stands_at, next_row}

-- the ring of a row, from it on
abbrev pub ring_in : List ℕ → List ℕ → List ℕ → ℕ → List ℕ
ring_in row_slot slot_row next r = ring (length row_slot) (next_row row_slot slot_row next) r

-- a row stands and is the lowest of its ring
abbrev pub starts_in : List ℕ → List ℕ → List ℕ → ℕ → Bool
starts_in row_slot slot_row next = starts_ring (length row_slot) (stands_at row_slot) (next_row row_slot slot_row next)

-- the rings below a row, by their lowest rows
abbrev pub lowest_below : List ℕ → List ℕ → List ℕ → ℕ → List ℕ
lowest_below row_slot slot_row next m = below (starts_in row_slot slot_row next) m

-- rings end to end
unfoldable pub end_to_end : (ℕ → List ℕ) → List ℕ → List ℕ
end_to_end ring [] = []
end_to_end ring (r ∷ l) = ring r ++ end_to_end ring l

-- rows and used slots point at each other, and the next links of the used slots stay among them, each slot once
pub record Links (row_slot slot_row next : List ℕ) : Type 0 where
  pub few : length row_slot ≤ 65536
  pub slots : length slot_row ≡ length next
  pub row_held : (r : ℕ) → at row_slot r ≢ 0 → at slot_row (at row_slot r - 1) ≡ r + 1
  pub slot_held : (s : ℕ) → at slot_row s ≢ 0 → at row_slot (at slot_row s - 1) ≡ s + 1
  pub next_used : (s : ℕ) → at slot_row s ≢ 0 → at slot_row (at next s) ≢ 0
  pub next_once : (s t : ℕ) → at slot_row s ≢ 0 → at slot_row t ≢ 0 → at next s ≡ at next t → s ≡ t

-- a row that stands
pub record OnRing (row_slot slot_row next : List ℕ) (r : ℕ) : Type 0 where
  pub links : Links row_slot slot_row next
  pub stands : at row_slot r ≢ 0

-- The slot after that of r, as the next row's: it is used, holds the next row, and is that row's slot.
pub record NextSlot (row_slot slot_row next : List ℕ) (r s : ℕ) : Type 0 where
  pub used : at slot_row s ≢ 0
  pub row : at slot_row s - 1 ≡ next_row row_slot slot_row next r
  pub own : s ≡ at row_slot (at slot_row s - 1) - 1
