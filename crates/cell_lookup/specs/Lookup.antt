-- A cell is looked up in a part of a list through the part's indices in order: equal cells, and cells over it.
-- Assumes nothing.
use Rattle.std.specs.Prelude.{ℕ, ◌<◌, ◌≤◌, ◌≡◌, Bool, true, false, ◌&&◌, not, cond, List, ◌⊎◌, eqb, ltb, length}
use Rattle.scope.specs.Lists.{at, passes}
use Rattle.scope.specs.Cells.{valid_cell, under}
use Rattle.scope.specs.CellLists.{not_under}
use Rattle.cell_lookup.specs.Order.{key_of, rank, Sorted}

-- indices of the part whose cells' keys ascend
pub record Ascending (part a : List ℕ) : Type 0 where
  pub room : length part ≤ length a
  pub below : (p : ℕ) → p < length part → at a p < length part
  pub order : (p q : ℕ) → p ≤ q → q < length part → key_of (at part (at a p)) ≤ key_of (at part (at a q))

pub record PlaceIn (part a : List ℕ) (p : ℕ) : Type 0 where
  pub room : length part ≤ length a
  pub here : p < length part
  pub index : at a p < length part

-- the key of the cell at place p is below that of x
abbrev pub key_below : List ℕ → List ℕ → ℕ → ℕ → Bool
key_below part a x p = ltb (key_of (at part (at a p))) (key_of x)

-- ---- equal cells

-- none of the first `count` cells of the part is x
abbrev pub differs_before : List ℕ → ℕ → ℕ → ℕ → Bool
differs_before part x count j = not (ltb j count && eqb (at part j) x)

abbrev pub new_to : List ℕ → ℕ → ℕ → Bool
new_to part x count = passes (differs_before part x count) (length part)

-- the indices of valid cells, by rank
pub record Ordered (part a : List ℕ) : Type 0 where
  pub few : length part ≤ 16384
  pub valid : (j : ℕ) → j < length part → valid_cell (at part j) ≡ true
  pub sorted : Sorted (rank part) (length part) a

pub record LookedUp (part a : List ℕ) (x : ℕ) : Type 0 where
  pub ordered : Ordered part a
  pub valid : valid_cell x ≡ true

-- ---- cells over another

-- x lies under no cell of the part
abbrev pub clear_of : List ℕ → ℕ → Bool
clear_of part x = passes (not_under part x) (length part)

-- each index in its order, or in its place one of a cell over it: only cells that lie under no other are named, and every cell of the
-- part is one of them or lies under one, the cell at place `over`
pub record Raised (part a : List ℕ) : Type 0 where
  pub valid : (j : ℕ) → j < length part → valid_cell (at part j) ≡ true
  pub ascending : Ascending part a
  pub top : (p j : ℕ) → p < length part → j < length part → under (at part (at a p)) (at part j) ≡ false
  pub over : ℕ → ℕ
  pub over_in : (j : ℕ) → j < length part → over j < length part
  pub over_is : (j : ℕ) → j < length part → (at part j ≡ at part (at a (over j))) ⊎ (under (at part j) (at part (at a (over j))) ≡ true)

pub record LookedOver (part a : List ℕ) (x : ℕ) : Type 0 where
  pub raised : Raised part a
  pub valid : valid_cell x ≡ true

-- the index j, or `top` where cell j lies under that of `top`; there is no top where `top` is no index
unfoldable pub top_over : List ℕ → ℕ → ℕ → ℕ
top_over part j top = cond (ltb top (length part) && under (at part j) (at part top)) top j
