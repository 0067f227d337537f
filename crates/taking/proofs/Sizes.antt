-- Memories of the same sizes: each slice as long as before, as of a memory that is lent and handed back. A newly opened state depends on
-- nothing else.
-- Assumes nothing.
use mathlib.Core.Path.{◌≡◌, refl, ◌∙◌, ap}
use mathlib.Core.List.{List}
use Prim.Native.Nat.{ℕ}
use lib.ListN.{length, replicate}
use Rattle.scope.specs.Lists.{zeros}
use Rattle.scope.specs.Memory.{Memory, opened}
use Rattle.lent.specs.declared.Memory.{Memory as LentMemory}
use Rattle.lent.specs.declared.Marks.{Marks}
use Rattle.lent.specs.Lent.{memory_of, SameMemory, SameMarks}

pub record Sized (m₀ m : Memory) : Type 0 where
  pub head : length m.head ≡ length m₀.head
  pub cells : length m.cells ≡ length m₀.cells
  pub parent : length m.parent ≡ length m₀.parent
  pub rank : length m.rank ≡ length m₀.rank
  pub cell_mark : length m.cell_mark ≡ length m₀.cell_mark
  pub slot_row : length m.slot_row ≡ length m₀.slot_row
  pub slot_cell : length m.slot_cell ≡ length m₀.slot_cell
  pub prev : length m.prev ≡ length m₀.prev
  pub next : length m.next ≡ length m₀.next
  pub row_slot : length m.row_slot ≡ length m₀.row_slot
  pub row_mark : length m.row_mark ≡ length m₀.row_mark

pub sized_same : {a b : LentMemory} {k l : Marks} → SameMemory a b → SameMarks k l → Sized (memory_of a k) (memory_of b l)
sized_same p q = record {
  head = p.head_length;
  cells = p.cells_length;
  parent = p.parent_length;
  rank = p.rank_length;
  cell_mark = q.cell_mark_length;
  slot_row = p.slot_row_length;
  slot_cell = p.slot_cell_length;
  prev = p.prev_length;
  next = p.next_length;
  row_slot = p.row_slot_length;
  row_mark = q.row_mark_length;
}

pub sized_refl : (m : Memory) → Sized m m
sized_refl m = record { head = refl; cells = refl; parent = refl; rank = refl; cell_mark = refl; slot_row = refl; slot_cell = refl; prev = refl; next = refl; row_slot = refl; row_mark = refl }

pub sized_on : {m₀ m₁ m₂ : Memory} → Sized m₀ m₁ → Sized m₁ m₂ → Sized m₀ m₂
sized_on a b = record {
  head = b.head ∙ a.head;
  cells = b.cells ∙ a.cells;
  parent = b.parent ∙ a.parent;
  rank = b.rank ∙ a.rank;
  cell_mark = b.cell_mark ∙ a.cell_mark;
  slot_row = b.slot_row ∙ a.slot_row;
  slot_cell = b.slot_cell ∙ a.slot_cell;
  prev = b.prev ∙ a.prev;
  next = b.next ∙ a.next;
  row_slot = b.row_slot ∙ a.row_slot;
  row_mark = b.row_mark ∙ a.row_mark;
}

pub zeros_same : (l k : List ℕ) → length l ≡ length k → zeros l ≡ zeros k
zeros_same l k e = ap (λ (n : ℕ). replicate n 0) e

pub opened_same : (mode : ℕ) {m₀ m : Memory} → Sized m₀ m → opened mode m ≡ opened mode m₀
unfolding opened
opened_same mode {m₀} {m} s =
    rw (
      zeros_same m.cells m₀.cells s.cells,
      zeros_same m.parent m₀.parent s.parent,
      zeros_same m.rank m₀.rank s.rank,
      zeros_same m.cell_mark m₀.cell_mark s.cell_mark,
      zeros_same m.slot_row m₀.slot_row s.slot_row,
      zeros_same m.slot_cell m₀.slot_cell s.slot_cell,
      zeros_same m.prev m₀.prev s.prev,
      zeros_same m.next m₀.next s.next,
      zeros_same m.row_slot m₀.row_slot s.row_slot,
      zeros_same m.row_mark m₀.row_mark s.row_mark,
    )
