-- Rings laid end to end, with the start and the length of each, and their areas read off again.
-- Assumes nothing.
use Rattle.std.specs.Prelude.{ℕ, ◌+◌, ◌≤◌, ◌<◌, ◌≡◌, ◌≢◌, List, map, Float, length, get_or, take, drop}
use Rattle.std.specs.Float.{nan}
use Rattle.std.proofs.Math.Seq.{slice}
use Rattle.scope.specs.Lists.{at}
use Rattle.scope.specs.Area.{area_of}
use Rattle.ring_sort.specs.Fill.{Filling}
use Rattle.ring_sort.specs.Parts.{Part}
use Rattle.rings.specs.Links.{Links, OnRing, ring_in, end_to_end}

pub record LayReady (row_slot slot_row next out : List ℕ) (from r : ℕ) : Type 0 where
  pub ring : OnRing row_slot slot_row next r
  pub room : from + length (ring_in row_slot slot_row next r) ≤ length out

pub record Laid (row_slot slot_row next out : List ℕ) (from r : ℕ) (out' : List ℕ) (k : ℕ) : Type 0 where
  pub count : k ≡ length (ring_in row_slot slot_row next r)
  pub part : Part from (from + k) out (ring_in row_slot slot_row next r) out'

-- the rings of the first i rows, end to end
abbrev pub laid_in : List ℕ → List ℕ → List ℕ → List ℕ → ℕ → List ℕ
laid_in row_slot slot_row next rows i = end_to_end (ring_in row_slot slot_row next) (take i rows)

pub record LayAllReady (row_slot slot_row next rows : List ℕ) (n : ℕ) (edges start size : List ℕ) : Type 0 where
  pub links : Links row_slot slot_row next
  pub rows_in : n ≤ length rows
  pub stand : (i : ℕ) → i < n → at row_slot (at rows i) ≢ 0
  pub room : length (laid_in row_slot slot_row next rows n) ≤ length edges
  pub few : length (laid_in row_slot slot_row next rows n) ≤ 4294967296
  pub start_room : n ≤ length start
  pub size_room : n ≤ length size

pub record LaidAll (row_slot slot_row next rows : List ℕ) (n : ℕ) (edges start size edges' start' size' : List ℕ) : Type 0 where
  pub wrote : take (length (laid_in row_slot slot_row next rows n)) edges' ≡ laid_in row_slot slot_row next rows n
  pub behind : drop (length (laid_in row_slot slot_row next rows n)) edges' ≡ drop (length (laid_in row_slot slot_row next rows n)) edges
  pub len : length edges' ≡ length edges
  pub starts : Filling 0 (λ i. length (laid_in row_slot slot_row next rows i)) start start' n
  pub sizes : Filling 0 (λ i. length (ring_in row_slot slot_row next (at rows i))) size size' n

-- ---- areas

abbrev pub terms_of : List Float → List ℕ → List Float
terms_of terms l = map (λ x. get_or terms x nan) l

-- each row has its term
abbrev pub RowsReady : List Float → List ℕ → Type 0
RowsReady terms rows = (k : ℕ) → k < length rows → at rows k < length terms

pub record AreaReady (terms : List Float) (edges : List ℕ) (from to : ℕ) : Type 0 where
  pub from_to : from ≤ to
  pub to_in : to ≤ length edges
  pub rows_in : RowsReady terms (slice from to edges)

-- the area of the i-th ring
abbrev pub area_laid : List Float → List ℕ → List ℕ → List ℕ → ℕ → Float
area_laid terms edges start size i = area_of (terms_of terms (slice (at start i) (at start i + at size i) edges))

pub record AreasReady (terms : List Float) (edges start size : List ℕ) (area : List Float) (n : ℕ) : Type 0 where
  pub starts : n ≤ length start
  pub sizes : n ≤ length size
  pub room : n ≤ length area
  pub ready : (i : ℕ) → i < n → AreaReady terms edges (at start i) (at start i + at size i)

-- ---- rings laid out, with their areas

pub record OutReady (row_slot slot_row next : List ℕ) (terms : List Float) (rows : List ℕ) (n : ℕ) (edges start size : List ℕ) (area : List Float) : Type 0 where
  pub lay : LayAllReady row_slot slot_row next rows n edges start size
  pub term_count : length terms ≡ length row_slot
  pub area_room : n ≤ length area

pub record LaidOut (row_slot slot_row next : List ℕ) (terms : List Float) (rows : List ℕ) (n : ℕ) (edges start size : List ℕ) (area : List Float)
    (edges' start' size' : List ℕ) (area' : List Float) : Type 0 where
  pub laid : LaidAll row_slot slot_row next rows n edges start size edges' start' size'
  pub areas : Filling nan (λ i. area_of (terms_of terms (ring_in row_slot slot_row next (at rows i)))) area area' n
