-- The loop of `replayed_feed::offer_each`.
use Prim.Native.Nat.{◌*◌, ◌≤◌}
use mathlib.Core.Path.{◌≡◌}
use lib.ListN.{length}
use Rattle.replayed_feed.proofs.offer_each.Given as goal

abbrev pub invariant-loop-cell : goal.invariant-loop-cell
invariant-loop-cell g l = (l.end ≤ 8 * l.cell-index) × (length l.state ≡ length l.initial.state) × (length l.accepted ≡ length l.initial.accepted)
