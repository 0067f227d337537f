-- The cells of a list in chains, one for each seat: for each seat the last index with it, for each index the one before it with the same
-- seat, where there are any. Here an index is numbered from 1, and none is 0.
--     seat_of          a cell's seat, 0 to 8,191
--     number          an index plus 1, 0 for none
--     Chained         the chains of the first cells: between two links of a chain no index has its seat
--     NewIn, Apart    a cell is none of the first ones; every two cells differ
-- Assumes nothing.
use Rattle.std.specs.Prelude.{ℕ, ◌+◌, ◌-◌, ◌*◌, ◌/◌, ◌%◌, ◌^◌, ◌<◌, ◌≤◌, ◌≡◌, Bool, true, Option, None, Some, List, length, get_or, set, map}
use Rattle.scope.specs.Lists.{at}

unfoldable pub seat_of : ℕ → ℕ
seat_of x = (x % 2 ^ 32 * 1640531527 + x / 2 ^ 32 % 2 ^ 20 * 73244475) / 2 ^ 19 % 8192

abbrev pub number : Option ℕ → ℕ
number None = 0
number (Some i) = i + 1

abbrev pub numbers : List (Option ℕ) → List ℕ
numbers = map number

pub record Chained (cs heads links : List ℕ) (n : ℕ) : Type 0 where
  pub head_gap : (h j : ℕ) → at heads h ≤ j → j < n → seat_of (at cs j) ≡ h → ⊥
  pub head_in : (h : ℕ) → at heads h ≤ n
  pub head_seat : (h : ℕ) → 0 < at heads h → seat_of (at cs (at heads h - 1)) ≡ h
  pub link_gap : (p j : ℕ) → p < n → at links p ≤ j → j < p → seat_of (at cs j) ≡ seat_of (at cs p) → ⊥
  pub link_in : (p : ℕ) → p < n → at links p ≤ p
  pub link_seat : (p : ℕ) → p < n → 0 < at links p → seat_of (at cs (at links p - 1)) ≡ seat_of (at cs p)

pub record NewIn (cs : List ℕ) (n x : ℕ) : Type 0 where
  pub differs : (j : ℕ) → j < n → at cs j ≡ x → ⊥

pub record Apart (cs : List ℕ) : Type 0 where
  pub differ : (i : ℕ) → i < length cs → NewIn cs i (at cs i)

-- the answer true shows it
pub record Shows (b : Bool) (P : Type 0) : Type 0 where
  pub shown : b ≡ true → P

-- ---- what the steps ask for and leave

pub record AsksNew (cs : List ℕ) (heads links : List (Option ℕ)) (n : ℕ) : Type 0 where
  pub seats : length heads ≡ 8192
  pub room : n ≤ length links
  pub within : n ≤ length cs
  pub chained : Chained cs (numbers heads) (numbers links) n

pub record AsksLink (heads links : List (Option ℕ)) (i : ℕ) : Type 0 where
  pub seats : length heads ≡ 8192
  pub room : i < length links
  pub few : i < 16384

pub record Linked (x i : ℕ) (heads₀ links₀ heads links : List (Option ℕ)) : Type 0 where
  pub links_is : links ≡ set links₀ i (get_or heads₀ (seat_of x) None)
  pub heads_is : heads ≡ set heads₀ (seat_of x) (Some i)

pub record ChainRoom (cs : List ℕ) (heads links : List (Option ℕ)) : Type 0 where
  pub seats : length heads ≡ 8192
  pub heads_clear : (h : ℕ) → at (numbers heads) h ≡ 0
  pub room : length cs ≤ length links
  pub few : length cs ≤ 16384
