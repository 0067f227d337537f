-- `is_unheld` meets its contract.
-- Assumes nothing.
use mathlib.Core.Path.{refl, ap, ◌∙◌}
use mathlib.Core.Bool.{not}
use lib.Dec.{eqb}
use Rattle.scope.specs.CellLists.{differs}
use Rattle.scope.proofs.Iterated.{any_scan}
use Rattle.cell_lookup.proofs.is_unheld.Goals as goal

pub returns : goal.returns
returns c =
    let a = c.args in
    ap not c.contains.ensures.value ∙ any_scan 0 (λ y. eqb y a.x) (differs a.held.now a.x) a.held.now (λ k h. refl)
