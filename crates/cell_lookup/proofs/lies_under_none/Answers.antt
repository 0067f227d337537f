-- `lies_under_none` meets its contract.
-- Assumes nothing.
use mathlib.Core.Path.{refl, ap, ◌∙◌}
use mathlib.Core.Bool.{not}
use Rattle.std.proofs.Common.{rules, tests}
use Rattle.std.proofs.lemmas.Iterator.{YieldsList-from_slice}
use Rattle.std.proofs.lemmas.Iterator.Search.{any_from_yields_List}
use Rattle.scope.specs.Cells.{under}
use Rattle.scope.specs.CellLists.{not_under}
use Rattle.scope.proofs.Iterated.{any_scan}
use Rattle.cell_lookup.proofs.lies_under_none.Goals as goal

pub returns : goal.returns
returns c =
    let x = c.args.x in
    let held = c.args.held.now in
    ap not (any_from_yields_List (λ y. under x y) _ _ c.any.result c.any.ensures.ran (YieldsList-from_slice held cc) (λ y b q k. search (rules, tests)))
    ∙ any_scan 0 (λ y. under x y) (not_under held x) held (λ k h. refl)
