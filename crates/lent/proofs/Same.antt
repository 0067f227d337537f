-- A call that hands back the very slices that it was lent, and calls in a row that do.
--     memory_refl, marks_refl, output_refl     no call
--     memory_on, marks_on, output_on           one call after another
--     state_is, marked_is, read_is, drawn_is   what is to be read is what is lent
--     is_read_one, is_marked_one, is_drawn_one     so it is told whole: two that are the same lent value to be read are equal
-- Assumes nothing.
use mathlib.Core.Path.{◌≡◌, refl, sym, ◌∙◌}
use Rattle.lent.specs.declared.Memory.{Memory}
use Rattle.lent.specs.declared.Marks.{Marks}
use Rattle.lent.specs.declared.Output.{Output}
use Rattle.lent.specs.declared.State.{State}
use Rattle.lent.specs.declared.Marked.{Marked}
use Rattle.lent.specs.declared.Drawn.{Drawn}
use Rattle.lent.specs.Lent.{memory_of, state_of, read_of, output_of, drawn_of, IsRead, IsMarked, IsDrawn, SameMemory, SameMarks, SameOutput}

pub memory_refl : (a : Memory) → SameMemory a a
memory_refl a = record { head = refl; cells = refl; parent = refl; rank = refl; slot_row = refl; slot_cell = refl; prev = refl; next = refl; row_slot = refl; head_length = refl; cells_length = refl; parent_length = refl; rank_length = refl; slot_row_length = refl; slot_cell_length = refl; prev_length = refl; next_length = refl; row_slot_length = refl }

pub memory_on : {a b c : Memory} → SameMemory a b → SameMemory b c → SameMemory a c
memory_on p q = record {
  head = q.head ∙ p.head;
  cells = q.cells ∙ p.cells;
  parent = q.parent ∙ p.parent;
  rank = q.rank ∙ p.rank;
  slot_row = q.slot_row ∙ p.slot_row;
  slot_cell = q.slot_cell ∙ p.slot_cell;
  prev = q.prev ∙ p.prev;
  next = q.next ∙ p.next;
  row_slot = q.row_slot ∙ p.row_slot;
  head_length = q.head_length ∙ p.head_length;
  cells_length = q.cells_length ∙ p.cells_length;
  parent_length = q.parent_length ∙ p.parent_length;
  rank_length = q.rank_length ∙ p.rank_length;
  slot_row_length = q.slot_row_length ∙ p.slot_row_length;
  slot_cell_length = q.slot_cell_length ∙ p.slot_cell_length;
  prev_length = q.prev_length ∙ p.prev_length;
  next_length = q.next_length ∙ p.next_length;
  row_slot_length = q.row_slot_length ∙ p.row_slot_length;
}

pub marks_refl : (a : Marks) → SameMarks a a
marks_refl a = record { cell_mark = refl; row_mark = refl; cell_mark_length = refl; row_mark_length = refl }

pub marks_on : {a b c : Marks} → SameMarks a b → SameMarks b c → SameMarks a c
marks_on p q = record {
  cell_mark = q.cell_mark ∙ p.cell_mark;
  row_mark = q.row_mark ∙ p.row_mark;
  cell_mark_length = q.cell_mark_length ∙ p.cell_mark_length;
  row_mark_length = q.row_mark_length ∙ p.row_mark_length;
}

pub output_refl : (a : Output) → SameOutput a a
output_refl a = record { start = refl; size = refl; group = refl; area = refl; edges = refl; start_length = refl; size_length = refl; group_length = refl; area_length = refl; edges_length = refl }

pub output_on : {a b c : Output} → SameOutput a b → SameOutput b c → SameOutput a c
output_on p q = record {
  start = q.start ∙ p.start;
  size = q.size ∙ p.size;
  group = q.group ∙ p.group;
  area = q.area ∙ p.area;
  edges = q.edges ∙ p.edges;
  start_length = q.start_length ∙ p.start_length;
  size_length = q.size_length ∙ p.size_length;
  group_length = q.group_length ∙ p.group_length;
  area_length = q.area_length ∙ p.area_length;
  edges_length = q.edges_length ∙ p.edges_length;
}

pub state_is : {m : Memory} {s : State} (k : Marks) → IsRead m s → state_of s k ≡ memory_of m k
state_is k e = rw (e.head, e.cells, e.parent, e.rank, e.slot_row, e.slot_cell, e.prev, e.next, e.row_slot)

pub marked_is : {k : Marks} {l : Marked} (s : State) → IsMarked k l → read_of s l ≡ state_of s k
marked_is s e = rw (e.cell_mark, e.row_mark)

pub read_is : {m : Memory} {s : State} {k : Marks} {l : Marked} → IsRead m s → IsMarked k l → read_of s l ≡ memory_of m k
read_is {m} {s} {k} e f = marked_is s f ∙ state_is k e

pub drawn_is : {o : Output} {d : Drawn} → IsDrawn o d → drawn_of d ≡ output_of o
drawn_is e = rw (e.start, e.size, e.group, e.area, e.edges)

pub is_read_one : {m : Memory} → {s s' : State} → IsRead m s → IsRead m s'
    → (s.head.now ≡ s'.head.now) × (s.cells.now ≡ s'.cells.now) × (s.parent.now ≡ s'.parent.now) × (s.rank.now ≡ s'.rank.now)
    × (s.slot_row.now ≡ s'.slot_row.now) × (s.slot_cell.now ≡ s'.slot_cell.now) × (s.prev.now ≡ s'.prev.now) × (s.next.now ≡ s'.next.now)
    × (s.row_slot.now ≡ s'.row_slot.now)
is_read_one p q = (
  p.head ∙ sym q.head,
  p.cells ∙ sym q.cells,
  p.parent ∙ sym q.parent,
  p.rank ∙ sym q.rank,
  p.slot_row ∙ sym q.slot_row,
  p.slot_cell ∙ sym q.slot_cell,
  p.prev ∙ sym q.prev,
  p.next ∙ sym q.next,
  p.row_slot ∙ sym q.row_slot,
)

pub is_marked_one : {k : Marks} → {l l' : Marked} → IsMarked k l → IsMarked k l'
    → (l.cell_mark.now ≡ l'.cell_mark.now) × (l.row_mark.now ≡ l'.row_mark.now)
is_marked_one p q = (p.cell_mark ∙ sym q.cell_mark, p.row_mark ∙ sym q.row_mark)

pub is_drawn_one : {o : Output} → {d d' : Drawn} → IsDrawn o d → IsDrawn o d'
    → (d.start.now ≡ d'.start.now) × (d.size.now ≡ d'.size.now) × (d.group.now ≡ d'.group.now) × (d.area.now ≡ d'.area.now)
    × (d.edges.now ≡ d'.edges.now)
is_drawn_one p q = (p.start ∙ sym q.start, p.size ∙ sym q.size, p.group ∙ sym q.group, p.area ∙ sym q.area, p.edges ∙ sym q.edges)
