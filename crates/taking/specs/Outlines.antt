-- A cell's outline as rows: what is asked of the slices, and what is found.
-- Assumes nothing.
use Rattle.std.specs.Prelude.{◌≡◌, Bool, true, false, ◌&&◌, ◌||◌, not, ℕ, ◌+◌, ◌^◌, ◌<◌, ◌≤◌, leb, ltb, length, take}
use mathlib.Core.List.{List, [], ◌∷◌, ◌++◌, map, Memᴰ}
use Rattle.scope.specs.Lists.{at, passes}
use Rattle.scope.specs.Cells.{resolution_of, valid_cell}
use Rattle.scope.specs.Walk.{outline}
use Rattle.scope.specs.Table.{ascends, row_of}
use Rattle.scope.specs.Pool.{names_twice}
use Rattle.taking.specs.declared.lookup.Outlined.{Outlined}

-- scope's `outline_rows` and `all_in_table`, of a table with these edges
abbrev pub rows_of : List ℕ → ℕ → List ℕ
rows_of es x = map (row_of es) (outline x (resolution_of (at es 0)))

abbrev pub all_in : List ℕ → List ℕ → Bool
all_in es o = passes (λ i. ltb (at o i) (length es)) (length o)

-- Room for an outline's rows: for as many as both the table and the outline have.
pub record Room (es : List ℕ) (x : ℕ) (rows : List ℕ) : Type 0 where
  pub fits : (n : ℕ) → n ≤ length es → n ≤ length (outline x (resolution_of (at es 0))) → n ≤ length rows

-- A cell at most four resolutions coarser than the target has at most 6 · 3^4 edges in its outline.
abbrev pub is_near : ℕ → ℕ → Bool
is_near target x = leb target (resolution_of x + 4)

abbrev pub near_at : ℕ → List ℕ → ℕ → Bool
near_at target cs i = is_near target (at cs i)

-- A table of at most 4,096 rows, or a few cells and each of them near.
unfoldable pub few_suffice : List ℕ → List ℕ → Bool
few_suffice es cs = leb (length es) 4096 || (ltb (length cs) 8 && passes (near_at (resolution_of (at es 0)) cs) (length cs))

-- A valid cell, a table in order, marks that are clear, and room for the rows.
pub record OutlineAsks (es mark rows : List ℕ) (x : ℕ) : Type 0 where
  pub valid : valid_cell x ≡ true
  pub sorted : passes (ascends es) (length es) ≡ true
  pub some : 0 < length es
  pub most : length es ≤ 65536
  pub marks : length mark ≡ length es
  pub clear : (a : ℕ) → at mark a ≡ 0
  pub room : Room es x rows

-- Whether an edge is absent; where none is, whether one is named twice; where neither, the outline's rows.
pub record Finds (es : List ℕ) (x : ℕ) (rows : List ℕ) (r : Outlined) : Type 0 where
  pub count_in : r.count ≤ length rows
  pub absent : r.absent ≡ not (all_in es (rows_of es x))
  pub twice : r.absent ≡ false → r.twice ≡ names_twice (rows_of es x)
  pub stored : r.absent ≡ false → r.twice ≡ false → take r.count rows ≡ rows_of es x

-- The rows that are stored are marked, and no other is.
pub record Marks (mark stored : List ℕ) : Type 0 where
  pub on : (a : ℕ) → Memᴰ a stored → at mark a ≡ 1
  pub off : (a : ℕ) → (Memᴰ a stored → ⊥) → at mark a ≡ 0

-- A store of one row, of those that are stored so far.
pub record RowAsks (mark rows : List ℕ) (count row : ℕ) : Type 0 where
  pub row_in : row < length mark
  pub row_small : row < 2 ^ 32
  pub marks : Marks mark (take count rows)
  pub room : at mark row ≡ 0 → count < length rows
  pub count_in : count ≤ length rows

-- A new row is stored and marked; of a row that is stored already nothing changes.
pub record StoresRow (mark rows : List ℕ) (count row : ℕ) (mark' rows' : List ℕ) (new : Bool) : Type 0 where
  pub fresh : new ≡ true → (Memᴰ row (take count rows) → ⊥)
  pub stored : new ≡ true → take (count + 1) rows' ≡ take count rows ++ (row ∷ [])
  pub marked : new ≡ true → Marks mark' (take (count + 1) rows')
  pub again : new ≡ false → Memᴰ row (take count rows)
  pub same_rows : new ≡ false → rows' ≡ rows
  pub same_marks : new ≡ false → mark' ≡ mark

-- The same with the rows that are stored still marked.
pub record FindsMarked (es : List ℕ) (x : ℕ) (mark rows : List ℕ) (r : Outlined) : Type 0 where
  pub found : Finds es x rows r
  pub marks : Marks mark (take r.count rows)
  pub inside : (a : ℕ) → Memᴰ a (take r.count rows) → a < length es

-- Only these rows are marked.
pub record UnmarkAsks (mark stored : List ℕ) : Type 0 where
  pub inside : (a : ℕ) → Memᴰ a stored → a < length mark
  pub off : (a : ℕ) → (Memᴰ a stored → ⊥) → at mark a ≡ 0
