-- `index::is_pentagon_base` meets its contract. The table has b where one of its numbers is b.
-- Assumes nothing.
use mathlib.Core.Path.{◌∙◌}
use Rattle.scope.specs.Cells.{pentagon_base_cells}
use Rattle.index.proofs.Reading.{member_tests}
use Rattle.index.proofs.is_pentagon_base.Goals as goal

pub returns : goal.returns
returns c = c.contains.ensures.value ∙ member_tests c.args.b pentagon_base_cells
