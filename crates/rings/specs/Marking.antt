-- The pass over the rows that finds the rings: a ring's lowest row is marked 2, its other rows 1.
-- Assumes nothing.
use Rattle.std.specs.Prelude.{ℕ, ◌≤◌, ◌<◌, ◌≡◌, Bool, cond, ◌&&◌, List, eqb, length}
use Rattle.scope.specs.Lists.{at, member}
use Rattle.scope.specs.Order.{stands_at}
use Rattle.rings.specs.Links.{Links, OnRing, ring_in, starts_in, lowest_below, end_to_end}

pub record MarkReady (row_slot slot_row next mark : List ℕ) (r : ℕ) : Type 0 where
  pub ring : OnRing row_slot slot_row next r
  pub marks : length mark ≡ length row_slot

-- the marks that a ring leaves
abbrev pub mark_with : List ℕ → ℕ → List ℕ → ℕ → ℕ
mark_with ring r mark y = cond (eqb y r) 2 (cond (member y ring) 1 (at mark y))

pub record Marked (row_slot slot_row next mark : List ℕ) (r : ℕ) (mark' : List ℕ) (k : ℕ) : Type 0 where
  pub count : k ≡ length (ring_in row_slot slot_row next r)
  pub marks : (y : ℕ) → at mark' y ≡ mark_with (ring_in row_slot slot_row next r) r mark y
  pub len : length mark' ≡ length mark

-- a row that stands and is in no ring that is marked
abbrev pub unmarked : List ℕ → List ℕ → ℕ → Bool
unmarked row_slot mark i = stands_at row_slot i && eqb (at mark i) 0

pub record CountReady (row_slot slot_row next mark : List ℕ) : Type 0 where
  pub links : Links row_slot slot_row next
  pub marks : length mark ≡ length row_slot
  pub clear : (x : ℕ) → at mark x ≡ 0

-- as many rings and edges, and the mark 2 at the lowest rows alone
pub record Counted (row_slot slot_row next mark mark' : List ℕ) (rings edges : ℕ) : Type 0 where
  pub rings_are : rings ≡ length (lowest_below row_slot slot_row next (length row_slot))
  pub edges_are : edges ≡ length (end_to_end (ring_in row_slot slot_row next) (lowest_below row_slot slot_row next (length row_slot)))
  pub few : edges ≤ 4294967296
  pub twos : (x : ℕ) → x < length row_slot → eqb (at mark' x) 2 ≡ starts_in row_slot slot_row next x
  pub len : length mark' ≡ length mark
