-- Memories of which a slot's rules read some slices only; the others are left empty. And a slot's rules with the link ahead alone.
-- Assumes nothing.
use Rattle.std.specs.Prelude.{ℕ, Bool, ◌&&◌, cond, List, [], ◌∷◌, eqb}
use Rattle.scope.specs.Lists.{at}
use Rattle.scope.specs.Table.{Table}
use Rattle.scope.specs.Memory.{Memory, memory, is_used}
use Rattle.scope.specs.Rules.{points_back, cell_kept, link_used, reverse_free, free_kept}

abbrev pub links : List ℕ → List ℕ → List ℕ → List ℕ → Memory
links slot_row slot_cell prev next = memory [] [] [] [] [] slot_row slot_cell prev next [] []

abbrev pub pool : ℕ → List ℕ → List ℕ → List ℕ → List ℕ → List ℕ → List ℕ → Memory
pool held cells slot_row slot_cell prev next row_slot = memory (0 ∷ held ∷ []) cells [] [] [] slot_row slot_cell prev next row_slot []

abbrev pub ahead_kept : Memory → ℕ → Bool
ahead_kept m s = link_used m (at m.next s) && eqb (at m.prev (at m.next s)) s

abbrev pub used_ahead : Table → Memory → ℕ → Bool
used_ahead t m s = points_back t m s && cell_kept t m s && ahead_kept m s && reverse_free t m s

unfoldable pub slot_ahead : Table → Memory → ℕ → Bool
slot_ahead t m s = cond (is_used m s) (used_ahead t m s) (free_kept m s)
