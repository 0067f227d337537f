-- `first_under` meets its contract.
-- Assumes nothing.
use mathlib.Core.Path.{refl, ◌∙◌}
use Rattle.std.proofs.Common.{rules, tests}
use Rattle.std.proofs.lemmas.Iterator.{YieldsList-from_slice}
use Rattle.std.proofs.lemmas.Iterator.Search.{position_from_yields_List}
use Rattle.scope.specs.Cells.{under}
use Rattle.scope.specs.CellLists.{not_over}
use Rattle.scope.proofs.Iterated.{position_scan}
use Rattle.cell_lookup.proofs.first_under.Goals as goal

pub returns : goal.returns
returns c =
    let x = c.args.x in
    let held = c.args.held.now in
    position_from_yields_List (λ y. under y x) _ _ c.position.result c.position.ensures.ran (YieldsList-from_slice held cc) (λ y b q k. search (rules, tests))
    ∙ position_scan 0 (λ y. under y x) (not_over held x) held (λ k h. refl)
