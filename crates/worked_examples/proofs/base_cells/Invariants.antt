-- The loop of `worked_examples::base_cells`.
use mathlib.Core.Path.{◌≡◌}
use lib.ListN.{length}
use Rattle.scope.specs.Lists.{tabulate}
use Rattle.codec.proofs.Columns.{Filled}
use Rattle.worked_examples.specs.BaseCells.{of_base}
use Rattle.worked_examples.proofs.base_cells.Given as goal

abbrev pub invariant-loop-b : goal.invariant-loop-b
invariant-loop-b l = Filled (tabulate of_base) l.initial.cells l.cells l.b × (length l.initial.cells ≡ 122)
