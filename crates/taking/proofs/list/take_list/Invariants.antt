-- The loop of `taking::list::take_list`.
use mathlib.Core.Path.{◌≡◌}
use lib.ListN.{length}
use Rattle.lent.specs.Lent.{table_of, memory_with, SameMemory}
use Rattle.taking.proofs.InTurn.{InTurn}
use Rattle.taking.proofs.list.take_list.Given as goal

abbrev pub invariant-loop-cell : goal.invariant-loop-cell
invariant-loop-cell l =
    InTurn (table_of l.table) (memory_with l.initial.memory l.cell_mark l.initial.row_mark) l.list (memory_with l.memory l.cell_mark l.row_mark) l.rows l.vacant l.free l.cell-index
    × (length l.rows ≡ length l.initial.rows) × SameMemory l.initial.memory l.memory
