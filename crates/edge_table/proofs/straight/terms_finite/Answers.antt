-- `edge_table::straight::terms_finite` meets its contract.
-- Assumes nothing.
use mathlib.Core.Bool.{true, ◌&&◌}
use mathlib.Core.Path.{refl, ◌∙◌}
use lib.Ieee.{nan}
use Rattle.std.proofs.Common.{rules, tests}
use Rattle.std.proofs.lemmas.Iterator.{YieldsList-from_slice}
use Rattle.std.proofs.lemmas.Iterator.Consumers.{fold_from_yields_List}
use Rattle.scope.specs.Table.{is_finite}
use Rattle.scope.proofs.Iterated.{fold_scan}
use Rattle.edge_table.specs.Straight.{finite_at}
use Rattle.edge_table.proofs.straight.terms_finite.Goals as goal

pub returns : goal.returns
returns c =
    let terms = c.args.area.now in
    fold_from_yields_List _ (λ kept x. kept && is_finite x) true c.fold.result c.fold.ensures.ran (YieldsList-from_slice terms cc) (λ kept x b q k. search (rules, tests))
    ∙ fold_scan nan is_finite (finite_at terms) terms (λ k h. refl)
