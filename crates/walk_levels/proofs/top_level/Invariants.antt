-- The loop of `walk_levels::top_level`: the levels from r on ask their parent level.
use mathlib.Core.Path.{◌≡◌}
use mathlib.Core.Bool.{true}
use Prim.Native.Nat.{ℕ, ◌≤◌}
use Rattle.scope.specs.Walk.{asks_parent}
use Rattle.walk_levels.proofs.top_level.Given as goal

abbrev pub invariant-loop-r : goal.invariant-loop-r
invariant-loop-r l = (k : ℕ) → l.r ≤ k → k ≤ l.last → asks_parent l.parent k l.positions ≡ true
