-- The columns of a table and of a state, each filled from its place, are the table and the state of the bytes.
-- Assumes nothing.
use mathlib.Core.Path.{◌≡◌}
use mathlib.Core.List.{List, map}
use Prim.Native.Nat.{ℕ, ◌+◌, ◌*◌}
use lib.ListN.{length}
use lib.Ieee.{Float, binary64, of_bits}
use Rattle.scope.specs.Table.{table}
use Rattle.scope.specs.Memory.{Memory, memory, places, slots}
use Rattle.scope.specs.Bytes.{rows_in, column32, column64, table_in, slots_from, rows_from, state_in}
use Rattle.wire.specs.Sizes.{TableSized, StateRoom, rows, state_like}

pub table_in_lem : (b : List ℕ) {es₀ rs₀ : List ℕ} {terms₀ : List Float} → TableSized (rows_in b) (table es₀ rs₀ terms₀)
    → {es rs : List ℕ} {terms : List Float} → es ≡ column64 b 0 20 (length es₀) → rs ≡ column32 b 8 20 (length rs₀)
    → terms ≡ map (of_bits binary64) (column64 b 12 20 (length terms₀)) → table es rs terms ≡ table_in b
unfolding table_in
table_in_lem b s e r a = rw (e, r, a, s.edges, s.reverse, s.area)

-- xs in place of xs₀, filled with the numbers that follow each other from place start on
abbrev Filled : List ℕ → ℕ → List ℕ → List ℕ → Type 0
Filled b start xs₀ xs = xs ≡ column32 b start 4 (length xs₀)

pub state_in_lem : {b : List ℕ} {m : Memory} → StateRoom b m → {head cells parent rank cell_mark slot_row slot_cell prev next row_slot row_mark : List ℕ}
    → Filled b 0 m.head head → cells ≡ column64 b 8 8 (length m.cells) → Filled b (8 + 8 * places m) m.parent parent → Filled b (8 + 12 * places m) m.rank rank
    → Filled b (8 + 16 * places m) m.cell_mark cell_mark → Filled b (slots_from (places m)) m.slot_row slot_row
    → Filled b (slots_from (places m) + 4 * slots m) m.slot_cell slot_cell → Filled b (slots_from (places m) + 8 * slots m) m.prev prev
    → Filled b (slots_from (places m) + 12 * slots m) m.next next → Filled b (rows_from (slots m) (places m)) m.row_slot row_slot
    → Filled b (rows_from (slots m) (places m) + 4 * rows m) m.row_mark row_mark
    → memory head cells parent rank cell_mark slot_row slot_cell prev next row_slot row_mark ≡ state_like m b
unfolding state_in
state_in_lem R e₀ e₁ e₂ e₃ e₄ e₅ e₆ e₇ e₈ e₉ e₁₀ =
    rw (e₀, e₁, e₂, e₃, e₄, e₅, e₆, e₇, e₈, e₉, e₁₀, R.head, R.parent, R.rank, R.cell_mark, R.slot_cell, R.prev, R.next, R.row_mark)
