-- The loop of `walk_levels::move_levels`.
use Rattle.walk_levels.proofs.LevelLaws.{Run}
use Rattle.walk_levels.proofs.move_levels.Given as goal

abbrev pub invariant-loop-r : goal.invariant-loop-r
invariant-loop-r l = Run l.parent l.last l.scratchpad l.initial.positions l.r l.positions l.moved
