-- Document 01, "Numbered refusals", state rules for 9: each rule as a test, in the document's order.
-- Assumes nothing.
use Rattle.std.specs.Prelude.{ℕ, ◌+◌, ◌-◌, Bool, true, false, ◌&&◌, ◌||◌, not, cond, List, eqb, leb, ltb, length}
use Rattle.scope.specs.Lists.{at, passes, total}
use Rattle.scope.specs.Answers.{is_accepted}
use Rattle.scope.specs.Cells.{owner_of, under}
use Rattle.scope.specs.Table.{Table, row_count, reverse_of, target_of}
use Rattle.scope.specs.CellLists.{list_verdict}
use Rattle.scope.specs.Memory.{Memory, kept_mode, held, held_cells, places, slots, is_used, row_in, has_slot, slot_of}

-- Mode 0 or 1; counts within capacity.
abbrev pub head_kept : Memory → Bool
head_kept m = leb (kept_mode m) 1 && leb (held m) (places m)

-- Held cells pass 2, 3 and 4.
abbrev pub cells_kept : Table → Memory → Bool
cells_kept t m = is_accepted (list_verdict (kept_mode m) (target_of t) (held m) (held_cells m))

-- A row's slot number is none or a used slot that holds this row.
unfoldable pub row_kept : Memory → ℕ → Bool
row_kept m r = not (has_slot m r) || (leb (at m.row_slot r) (slots m) && eqb (at m.slot_row (slot_of m r)) (r + 1))

-- A used slot has its row in range, that row points back to it,
abbrev pub points_back : Table → Memory → ℕ → Bool
points_back t m s = leb (at m.slot_row s) (row_count t) && eqb (at m.row_slot (row_in m s)) (s + 1)

-- its cell number is held and the row's owner is that cell or lies under it;
unfoldable pub owned_by : ℕ → ℕ → Bool
owned_by e x = eqb (owner_of e) x || under (owner_of e) x

abbrev pub cell_kept : Table → Memory → ℕ → Bool
cell_kept t m s = ltb (at m.slot_cell s) (held m) && owned_by (at t.edges (row_in m s)) (at m.cells (at m.slot_cell s))

-- previous and next are used and inverse to each other;
abbrev pub link_used : Memory → ℕ → Bool
link_used m s = ltb s (slots m) && is_used m s

unfoldable pub links_kept : Memory → ℕ → Bool
links_kept m s =
    link_used m (at m.prev s) && link_used m (at m.next s)
    && eqb (at m.next (at m.prev s)) s && eqb (at m.prev (at m.next s)) s

-- no row and its reverse are both held;
abbrev pub reverse_free : Table → Memory → ℕ → Bool
reverse_free t m s = not (has_slot m (reverse_of t (row_in m s)))

-- free slots and marks are cleared;
abbrev pub free_kept : Memory → ℕ → Bool
free_kept m s = eqb (at m.slot_cell s) 0 && eqb (at m.prev s) 0 && eqb (at m.next s) 0

abbrev pub used_kept : Table → Memory → ℕ → Bool
used_kept t m s = points_back t m s && cell_kept t m s && links_kept m s && reverse_free t m s

unfoldable pub slot_kept : Table → Memory → ℕ → Bool
slot_kept t m s = cond (is_used m s) (used_kept t m s) (free_kept m s)

abbrev pub cleared_at : List ℕ → ℕ → Bool
cleared_at l i = eqb (at l i) 0

abbrev pub marks_kept : Memory → Bool
marks_kept m = passes (cleared_at m.row_mark) (length m.row_mark) && passes (cleared_at m.cell_mark) (length m.cell_mark)

-- each parent is held, and is itself or has a higher rank;
abbrev pub is_root : List ℕ → ℕ → Bool
is_root parent i = eqb (at parent i) i

unfoldable pub parent_kept : Memory → ℕ → Bool
parent_kept m i =
    ltb (at m.parent i) (held m)
    && (is_root m.parent i || ltb (at m.rank i) (at m.rank (at m.parent i)))

-- the ranks add up to no more than the held cells less the roots.
abbrev pub root_count : List ℕ → ℕ → ℕ
root_count parent n = total (λ i. cond (is_root parent i) 1 0) n

unfoldable pub ranks_kept : List ℕ → List ℕ → ℕ → Bool
ranks_kept parent rank n = leb (total (at rank) n + root_count parent n) n

-- The state breaks no rule.
unfoldable pub rules_kept : Table → Memory → Bool
rules_kept t m =
    head_kept m && cells_kept t m && passes (row_kept m) (length m.row_slot) && passes (slot_kept t m) (slots m) && marks_kept m
    && passes (parent_kept m) (held m) && ranks_kept m.parent m.rank (held m)
