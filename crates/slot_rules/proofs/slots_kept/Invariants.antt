-- The loop of `slot_rules::slots_kept`.
use mathlib.Core.List.{[]}
use lib.ListN.{length}
use Rattle.scope.specs.Table.{table}
use Rattle.slot_rules.specs.Slices.{pool, slot_ahead}
use Rattle.slot_rules.proofs.Sweeps.{Sweeping}
use Rattle.slot_rules.proofs.slots_kept.Given as goal

abbrev pub invariant-loop-slot : goal.invariant-loop-slot
invariant-loop-slot l = Sweeping (slot_ahead (table l.edges l.reverse []) (pool l.held l.cells l.slot_row l.slot_cell l.prev l.next l.row_slot)) (length l.slot_row) l.slot l.kept
