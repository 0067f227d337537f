-- Memories of which a rule reads some slices only; the others are left empty. How many numbers of a slice are not 0. And what is asked of
-- the slices.
-- Assumes nothing.
use Rattle.std.specs.Prelude.{ℕ, ◌≤◌, Bool, not, List, [], ◌∷◌, eqb, length}
use Rattle.scope.specs.Lists.{at, below}
use Rattle.scope.specs.Table.{Table, row_count}
use Rattle.scope.specs.Memory.{Memory, memory}
use Rattle.scope.proofs.Lengths.{Lengths}

abbrev pub rows : List ℕ → List ℕ → Memory
rows slot_row row_slot = memory [] [] [] [] [] slot_row [] [] [] row_slot []

abbrev pub forest : ℕ → List ℕ → List ℕ → Memory
forest held parent rank = memory (0 ∷ held ∷ []) [] parent rank [] [] [] [] [] [] []

abbrev pub is_set : List ℕ → ℕ → Bool
is_set l i = not (eqb (at l i) 0)

abbrev pub set_count : List ℕ → ℕ
set_count l = length (below (is_set l) (length l))

-- What 10 and 1 have found before: the slices agree in length and the capacities are in their ranges, and so is the row count.
pub record Lent (t : Table) (m : Memory) : Type 0 where
  pub lengths : Lengths t m
  pub most_rows : row_count t ≤ 65536
