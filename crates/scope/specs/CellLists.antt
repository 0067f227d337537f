-- Document 01, "Numbered refusals": 2, 3, 4, the second 3 and 8, over a whole list and for one cell against those that are held.
-- Assumes nothing.
use Rattle.std.specs.Prelude.{ℕ, suc, Bool, true, false, ◌&&◌, not, cond, List, eqb, leb, length, Ok}
use Rattle.scope.specs.declared.Refusal.TheVariants.{InvalidCell, DuplicateInput, UnsupportedResolution, TooManyCells}
use Rattle.scope.specs.Lists.{at, first_bad, passes}
use Rattle.scope.specs.Answers.{require, require_none, ◌▷◌, Verdict}
use Rattle.scope.specs.Cells.{resolution_of, valid_cell, under}

-- Modes: 0 even, 1 mixed.
abbrev pub is_even : ℕ → Bool
is_even mode = eqb mode 0

-- 2 unless every cell is valid.
abbrev pub valid_at : List ℕ → ℕ → Bool
valid_at cs i = valid_cell (at cs i)

-- 3 unless no two cells are equal; of two, the second one has an equal before it.
abbrev pub differs : List ℕ → ℕ → ℕ → Bool
differs cs x i = not (eqb (at cs i) x)

abbrev pub first_of_its_kind : List ℕ → ℕ → Bool
first_of_its_kind cs i = passes (differs cs (at cs i)) i

-- 4 when finer than the target; in even mode any other resolution.
unfoldable pub resolution_fits : ℕ → ℕ → ℕ → Bool
resolution_fits mode target x = cond (is_even mode) (eqb (resolution_of x) target) (leb (resolution_of x) target)

abbrev pub resolution_fits_at : ℕ → ℕ → List ℕ → ℕ → Bool
resolution_fits_at mode target cs i = resolution_fits mode target (at cs i)

-- 3, mixed mode, unless no cell lies under another.
abbrev pub not_under : List ℕ → ℕ → ℕ → Bool
not_under cs x i = not (under x (at cs i))

abbrev pub under_none : List ℕ → ℕ → Bool
under_none cs i = passes (not_under cs (at cs i)) (length cs)

abbrev pub in_mixed : ℕ → Verdict → Verdict
in_mixed mode v = cond (is_even mode) (Ok tt) v

-- 8 unless there are no more cells than capacity.
abbrev pub room_for : ℕ → ℕ → Verdict
room_for capacity n = require (leb n capacity) TooManyCells

-- A whole list: lowest index; of equal cells the index of the lowest second one; of nested ones the lowest index of a cell under another.
unfoldable pub list_verdict : ℕ → ℕ → ℕ → List ℕ → Verdict
list_verdict mode target capacity cs =
    require_none InvalidCell (length cs) (first_bad (valid_at cs) (length cs))
    ▷ require_none DuplicateInput (length cs) (first_bad (first_of_its_kind cs) (length cs))
    ▷ require_none UnsupportedResolution (length cs) (first_bad (resolution_fits_at mode target cs) (length cs))
    ▷ in_mixed mode (require_none DuplicateInput (length cs) (first_bad (under_none cs) (length cs)))
    ▷ room_for capacity (length cs)

-- An offer's index is the number of cells already held; for the second kind of 3 it is the place of the cell that lies under
-- the other, the lowest if several do.
abbrev pub not_over : List ℕ → ℕ → ℕ → Bool
not_over cs x i = not (under (at cs i) x)

unfoldable pub cell_verdict : ℕ → ℕ → ℕ → List ℕ → ℕ → Verdict
cell_verdict mode target capacity cs x =
    require (valid_cell x) (InvalidCell (length cs))
    ▷ require (passes (differs cs x) (length cs)) (DuplicateInput (length cs))
    ▷ require (resolution_fits mode target x) (UnsupportedResolution (length cs))
    ▷ in_mixed mode
    (require_none DuplicateInput (length cs) (first_bad (not_over cs x) (length cs))
    ▷ require (passes (not_under cs x) (length cs)) (DuplicateInput (length cs)))
    ▷ room_for capacity (suc (length cs))
