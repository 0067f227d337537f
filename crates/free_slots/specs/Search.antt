-- The search for a free slot: by flags of the slots that may be free, 64 to a word; or by eights.
-- Assumes nothing.
use Rattle.std.specs.Prelude.{◌≡◌, ◌≢◌, Bool, not, List, ℕ, zero, suc, ◌-◌, ◌*◌, ◌/◌, ◌%◌, ◌≤◌, ◌<◌, ◌^◌, eqb, length, set}
use Rattle.std.specs.Int.Bits.{bit_or}
use Rattle.scope.specs.Lists.{at, from}

-- A slot is used when it holds a row.
abbrev pub used_in : List ℕ → ℕ → Bool
used_in slot_row s = not (eqb (at slot_row s) 0)

-- the lowest free slot from i on, or the number of slots
abbrev pub free_from : List ℕ → ℕ → ℕ
free_from slot_row i = from (used_in slot_row) (length slot_row - i) i

-- ---- flags of slots

-- the k-th binary digit of a number, the lowest being the 0-th
unfoldable pub digit_at : ℕ → ℕ → ℕ
digit_at n zero = n % 2
digit_at n (suc k) = digit_at (n / 2) k

-- There is a flag for every slot, a digit of a word of 64. Where it is 0, the slot is used: a free slot's flag is 1.
pub record Flags (vacant slot_row : List ℕ) : Type 0 where
  pub room : length slot_row ≤ 64 * length vacant
  pub shown : (s : ℕ) → s < length slot_row → at slot_row s ≡ 0 → digit_at (at vacant (s / 64)) (s % 64) ≡ 1

-- the flags with that of slot s set
unfoldable pub vacated : List ℕ → ℕ → List ℕ
vacated vacant s = set vacant (s / 64) (bit_or (at vacant (s / 64)) (2 ^ (s % 64)))

-- Some word from i on is not 0.
pub record WordAsks (vacant : List ℕ) (i : ℕ) : Type 0 where
  pub word : ℕ
  pub high : i ≤ word
  pub within : word < length vacant
  pub some : at vacant word ≢ 0

-- The first such word.
pub record WordFound (vacant : List ℕ) (i r : ℕ) : Type 0 where
  pub high : i ≤ r
  pub within : r < length vacant
  pub none : (k : ℕ) → i ≤ k → k < r → at vacant k ≡ 0
  pub some : at vacant r ≢ 0

-- ---- the search

-- Some slot is free, and none below the start.
pub record SearchAsks (slot_row vacant : List ℕ) (start : ℕ) : Type 0 where
  pub cursor : start ≤ length slot_row
  pub some : free_from slot_row start < length slot_row
  pub packed : (s : ℕ) → s < start → at slot_row s ≢ 0
  pub flags : Flags vacant slot_row
  pub fits : length slot_row < 2 ^ 32

-- The slot is found, and once it holds a number the flags are right.
pub record Searched (slot_row : List ℕ) (start r : ℕ) (vacant' : List ℕ) : Type 0 where
  pub found : r ≡ free_from slot_row start
  pub flags : (v : ℕ) → v ≢ 0 → Flags vacant' (set slot_row r v)
