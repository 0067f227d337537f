-- The loop of `audit::feed::offer_all`.
use Rattle.lent.specs.Lent.{table_of, memory_of, SameMemory, SameMarks}
use Rattle.audit.proofs.Feeding.{InFeed}
use Rattle.audit.proofs.feed.offer_all.Given as goal

abbrev pub invariant-loop-cell : goal.invariant-loop-cell
invariant-loop-cell l =
    InFeed (table_of l.table) (memory_of l.initial.memory l.initial.marks) l.feed (memory_of l.memory l.marks) l.counts l.cell-index
    × SameMemory l.initial.memory l.memory × SameMarks l.initial.marks l.marks
