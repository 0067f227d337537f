-- `worked_examples::base_cells` meets its contract: the cells of the base cells before b are there.
-- Assumes nothing.
use native.Mathlib.Omega.{arith}
use mathlib.Core.Path.{◌∙◌, ap}
use Rattle.scope.specs.Lists.{tabulate}
use Rattle.codec.specs.Columns.{tabulated}
use Rattle.codec.proofs.Columns.{filled_none, filled_next, filled_all}
use Rattle.worked_examples.specs.BaseCells.{of_base, all_of_base}
use Rattle.worked_examples.proofs.base_cells.Goals as goal

pub loop-b-init : goal.loop-b-init
loop-b-init c = (filled_none (tabulated _) _, omega arith)

pub loop-b-preserved : goal.loop-b-preserved
loop-b-preserved c = (filled_next (tabulated _) c.loop-b.invariant.0 (omega arith) _ (omega arith), c.loop-b.invariant.1)

pub returns : goal.returns
unfolding all_of_base
returns c = let i = c.loop-b.invariant in filled_all (tabulated _) i.0 (omega arith) ∙ ap (tabulate of_base) i.1
