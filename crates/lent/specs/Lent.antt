-- What lent values hold, as `scope` has it; and that a call hands back the very slices that it was lent, each as long as before.
-- Assumes nothing.
use Rattle.std.specs.Prelude.{◌≡◌, List, ℕ, length}
use Rattle.scope.specs.Table.{Table as ScopeTable, table}
use Rattle.scope.specs.Memory.{Memory as ScopeMemory, Output as ScopeOutput, memory, output}
use Rattle.lent.specs.declared.Table.{Table}
use Rattle.lent.specs.declared.Memory.{Memory}
use Rattle.lent.specs.declared.State.{State}
use Rattle.lent.specs.declared.Marks.{Marks}
use Rattle.lent.specs.declared.Marked.{Marked}
use Rattle.lent.specs.declared.Output.{Output}
use Rattle.lent.specs.declared.Drawn.{Drawn}

abbrev pub table_of : Table → ScopeTable
table_of t = table t.edges.now t.reverse.now t.area.now

abbrev pub memory_of : Memory → Marks → ScopeMemory
memory_of m k = memory m.head.now m.cells.now m.parent.now m.rank.now k.cell_mark.now m.slot_row.now m.slot_cell.now m.prev.now m.next.now m.row_slot.now k.row_mark.now

abbrev pub state_of : State → Marks → ScopeMemory
state_of s k = memory s.head.now s.cells.now s.parent.now s.rank.now k.cell_mark.now s.slot_row.now s.slot_cell.now s.prev.now s.next.now s.row_slot.now k.row_mark.now

-- the memory with these marks of its places and of the table's rows, where they are lent apart
abbrev pub memory_with : Memory → List ℕ → List ℕ → ScopeMemory
memory_with m cell_mark row_mark = memory m.head.now m.cells.now m.parent.now m.rank.now cell_mark m.slot_row.now m.slot_cell.now m.prev.now m.next.now m.row_slot.now row_mark

-- the memory, where its marks are only read
abbrev pub marked_of : Memory → Marked → ScopeMemory
marked_of m k = memory_with m k.cell_mark.now k.row_mark.now

-- the state, where its marks are only read
abbrev pub read_of : State → Marked → ScopeMemory
read_of s k = memory s.head.now s.cells.now s.parent.now s.rank.now k.cell_mark.now s.slot_row.now s.slot_cell.now s.prev.now s.next.now s.row_slot.now k.row_mark.now

-- what a state holds is what the memory holds
pub record IsRead (m : Memory) (s : State) : Type 0 where
  pub head : s.head.now ≡ m.head.now
  pub cells : s.cells.now ≡ m.cells.now
  pub parent : s.parent.now ≡ m.parent.now
  pub rank : s.rank.now ≡ m.rank.now
  pub slot_row : s.slot_row.now ≡ m.slot_row.now
  pub slot_cell : s.slot_cell.now ≡ m.slot_cell.now
  pub prev : s.prev.now ≡ m.prev.now
  pub next : s.next.now ≡ m.next.now
  pub row_slot : s.row_slot.now ≡ m.row_slot.now

-- marks to be read are the marks
pub record IsMarked (k : Marks) (l : Marked) : Type 0 where
  pub cell_mark : l.cell_mark.now ≡ k.cell_mark.now
  pub row_mark : l.row_mark.now ≡ k.row_mark.now

abbrev pub output_of : Output → ScopeOutput
output_of o = output o.start.now o.size.now o.group.now o.area.now o.edges.now

abbrev pub drawn_of : Drawn → ScopeOutput
drawn_of d = output d.start.now d.size.now d.group.now d.area.now d.edges.now

-- what is to be read is what was written
pub record IsDrawn (o : Output) (d : Drawn) : Type 0 where
  pub start : d.start.now ≡ o.start.now
  pub size : d.size.now ≡ o.size.now
  pub group : d.group.now ≡ o.group.now
  pub area : d.area.now ≡ o.area.now
  pub edges : d.edges.now ≡ o.edges.now

-- ---- the same slices, as long as before

pub record SameMemory (old new : Memory) : Type 0 where
  pub head : new.head.ghost_name ≡ old.head.ghost_name
  pub cells : new.cells.ghost_name ≡ old.cells.ghost_name
  pub parent : new.parent.ghost_name ≡ old.parent.ghost_name
  pub rank : new.rank.ghost_name ≡ old.rank.ghost_name
  pub slot_row : new.slot_row.ghost_name ≡ old.slot_row.ghost_name
  pub slot_cell : new.slot_cell.ghost_name ≡ old.slot_cell.ghost_name
  pub prev : new.prev.ghost_name ≡ old.prev.ghost_name
  pub next : new.next.ghost_name ≡ old.next.ghost_name
  pub row_slot : new.row_slot.ghost_name ≡ old.row_slot.ghost_name
  pub head_length : length new.head.now ≡ length old.head.now
  pub cells_length : length new.cells.now ≡ length old.cells.now
  pub parent_length : length new.parent.now ≡ length old.parent.now
  pub rank_length : length new.rank.now ≡ length old.rank.now
  pub slot_row_length : length new.slot_row.now ≡ length old.slot_row.now
  pub slot_cell_length : length new.slot_cell.now ≡ length old.slot_cell.now
  pub prev_length : length new.prev.now ≡ length old.prev.now
  pub next_length : length new.next.now ≡ length old.next.now
  pub row_slot_length : length new.row_slot.now ≡ length old.row_slot.now

pub record SameMarks (old new : Marks) : Type 0 where
  pub cell_mark : new.cell_mark.ghost_name ≡ old.cell_mark.ghost_name
  pub row_mark : new.row_mark.ghost_name ≡ old.row_mark.ghost_name
  pub cell_mark_length : length new.cell_mark.now ≡ length old.cell_mark.now
  pub row_mark_length : length new.row_mark.now ≡ length old.row_mark.now

pub record SameOutput (old new : Output) : Type 0 where
  pub start : new.start.ghost_name ≡ old.start.ghost_name
  pub size : new.size.ghost_name ≡ old.size.ghost_name
  pub group : new.group.ghost_name ≡ old.group.ghost_name
  pub area : new.area.ghost_name ≡ old.area.ghost_name
  pub edges : new.edges.ghost_name ≡ old.edges.ghost_name
  pub start_length : length new.start.now ≡ length old.start.now
  pub size_length : length new.size.now ≡ length old.size.now
  pub group_length : length new.group.now ≡ length old.group.now
  pub area_length : length new.area.now ≡ length old.area.now
  pub edges_length : length new.edges.now ≡ length old.edges.now
