-- The loop of `slices::clear`: what it has gone over is zero, and the rest stands.
use Rattle.std.proofs.Common.{◌≡◌, ◌++◌, replicate, drop}
use Rattle.slices.proofs.clear.Given as goal

abbrev pub invariant-loop-i : goal.invariant-loop-i
invariant-loop-i g l = l.s ≡ replicate l.i g.T.Number.ZERO ++ drop l.i l.initial.s
