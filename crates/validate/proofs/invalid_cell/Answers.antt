-- `validate::invalid_cell` meets its contract.
-- Assumes nothing.
use mathlib.Core.Path.{◌∙◌}
use mathlib.Core.Bool.{not}
use Rattle.std.proofs.Common.{rules, tests}
use Rattle.std.proofs.lemmas.Iterator.{YieldsList-from_slice}
use Rattle.std.proofs.lemmas.Iterator.Search.{position_from_yields_List}
use Rattle.scope.specs.Cells.{valid_cell}
use Rattle.validate.proofs.Lowest.{position_lowest}
use Rattle.validate.proofs.invalid_cell.Goals as goal

pub returns : goal.returns
returns c =
    let cs = c.args.cells.now in
    position_from_yields_List (λ x. not (valid_cell x)) _ _ _ c.position.ensures.ran (YieldsList-from_slice cs cc) (λ x b q k. search (rules, tests))
    ∙ position_lowest valid_cell cs
