-- The loop of `audit::summary::put_refusals`.
use Prim.Native.Nat.{◌+◌, ◌-◌}
use Rattle.text.proofs.Writing.{Runs}
use Rattle.audit.specs.Summary.{refused_text}
use Rattle.audit.proofs.summary.put_refusals.Given as goal

abbrev pub invariant-loop-i : goal.invariant-loop-i
invariant-loop-i l = Runs (λ j. refused_text l.counts (j + 1)) 10 l.initial.out l.at l.out l.place l.i

abbrev pub decreases-loop-i : goal.decreases-loop-i
decreases-loop-i l = 10 - l.i
