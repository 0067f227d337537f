-- The loop of `replay::records::replay`.
use Prim.Native.Nat.{◌+◌, ◌≤◌}
use lib.ListN.{length}
use Rattle.replay.proofs.records.replay.Given as goal

abbrev pub invariant-loop-record : goal.invariant-loop-record
invariant-loop-record l = (l.tally.answers + length l.rest ≤ length l.list) × (l.tally.otherwise ≤ l.tally.answers)

abbrev pub decreases-loop-record : goal.decreases-loop-record
decreases-loop-record l = length l.rest
