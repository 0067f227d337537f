-- The loop of `rules::all_cleared`.
use lib.ListN.{length}
use Rattle.scope.specs.Rules.{cleared_at}
use Rattle.slot_rules.proofs.Sweeps.{Sweeping}
use Rattle.rules.proofs.all_cleared.Given as goal

abbrev pub invariant-loop-mark : goal.invariant-loop-mark
invariant-loop-mark l = Sweeping (cleared_at l.marks) (length l.marks) l.mark-index l.kept
