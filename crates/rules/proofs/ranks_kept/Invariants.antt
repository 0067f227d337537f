-- The loop of `rules::ranks_kept`.
use Rattle.rules.proofs.Totals.{Summing}
use Rattle.rules.proofs.ranks_kept.Given as goal

abbrev pub invariant-loop-place : goal.invariant-loop-place
invariant-loop-place l = Summing l.parent l.rank l.held l.place l.ranks l.roots
