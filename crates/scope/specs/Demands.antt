-- What a run of calls has accepted, and what a state must show of the accepted cells: document 01, "The part that comes over", and the
-- sentence "where only our calls touched it, these are the defined edges, successors and groups".
-- Assumes nothing.
use Rattle.std.specs.Prelude.{ℕ, ◌<◌, ◌≡◌, Bool, true, ◌↔◌}
use mathlib.Core.List.{List, [], ◌∷◌, ◌++◌, Memᴰ}
use Rattle.scope.specs.Lists.{at}
use Rattle.scope.specs.Answers.{if_accepted, verdict_of}
use Rattle.scope.specs.Table.{Table, row_count, outline_rows}
use Rattle.scope.specs.Standing.{StandsIn, SuccessorIn, OneGroup}
use Rattle.scope.specs.Memory.{Memory, Output, held, held_cells, has_slot, slot_of}
use Rattle.scope.specs.UnionFind.{root_of}
use Rattle.scope.specs.Order.{next_row}
use Rattle.scope.specs.Calls.{opening, offering, reading_out, dissolve_verdict, dissolving}

pub data Call : Type 0 where
  opens : ℕ → Call
  offers : ℕ → Call
  reads_out : Output → Call
  dissolves : ℕ → List ℕ → Output → Call

-- The memory that a call leaves.
unfoldable pub leaves : Table → Call → Memory → Memory
leaves t (opens mode) m = (opening t m mode).left
leaves t (offers x) m = (offering t m x).left
leaves t (reads_out o) m = (reading_out t m o).left
leaves t (dissolves mode xs o) m = (dissolving t m mode xs o).left

-- The cells accepted since the memory was last opened, after a call, where cs were those before it. Dissolve counts as open, then offers in
-- list order, then read out; refused, as an opening where it leaves the memory newly opened, else as nothing.
unfoldable pub accepted : Table → Call → Memory → List ℕ → List ℕ
accepted t (opens mode) m cs = if_accepted (opening t m mode).answer [] cs
accepted t (offers x) m cs = if_accepted (offering t m x).answer (cs ++ (x ∷ [])) cs
accepted t (reads_out o) m cs = cs
accepted t (dissolves mode xs o) m cs =
    let worked = if_accepted (verdict_of (dissolving t m mode xs o).answer) xs [] in
    if_accepted (dissolve_verdict t m mode xs o) worked cs

-- A memory, and the cells accepted in it since it was last opened.
pub record History : Type 0 where
  pub memory : Memory
  pub cells : List ℕ

-- A run of calls, one after the other.
unfoldable pub run : Table → List Call → History → History
run t [] h = h
run t (call ∷ calls) h = run t calls (record { memory = leaves t call h.memory; cells = accepted t call h.memory h.cells })

-- The held cells are the accepted ones; the rows with a slot are those that stand, each in the name of a cell that gives it; the next links
-- are the ring successors; two cells have one root exactly when they are in one group.
pub record Shows (t : Table) (m : Memory) (cs : List ℕ) : Type 0 where
  pub cells : held_cells m ≡ cs
  pub stands : (a : ℕ) → a < row_count t → (has_slot m a ≡ true) ↔ StandsIn t cs a
  pub gives : (a : ℕ) → a < row_count t → has_slot m a ≡ true → Memᴰ a (outline_rows t (at cs (at m.slot_cell (slot_of m a))))
  pub links : (a : ℕ) → a < row_count t → has_slot m a ≡ true → SuccessorIn t cs a (next_row m.row_slot m.slot_row m.next a)
  pub groups : (i j : ℕ) → i < held m → j < held m → (root_of m.parent i ≡ root_of m.parent j) ↔ OneGroup t cs (at cs i) (at cs j)
