-- `table_rules::one_resolution` meets its contract. A scan.
-- Assumes nothing.
use mathlib.Core.Path.{◌∙◌, ap}
use Rattle.std.proofs.Common.{rules, tests}
use Rattle.std.proofs.lemmas.Iterator.{YieldsList-from_slice}
use Rattle.std.proofs.lemmas.Iterator.Search.{all_from_yields_List}
use lib.Dec.{eqb}
use Rattle.scope.specs.Cells.{resolution_of}
use Rattle.scope.specs.Table.{has_target}
use Rattle.scope.proofs.Iterated.{all_scan}
use Rattle.table_rules.proofs.one_resolution.Goals as goal

pub returns : goal.returns
returns c =
    let es = c.args.edges.now in
    let target = c.resolution-target.result in
    all_from_yields_List (λ x. eqb (resolution_of x) target) _ _ _ c.all.ensures.ran (YieldsList-from_slice es cc) (λ x b q k. search (rules, tests))
    ∙ all_scan 0 (λ x. eqb (resolution_of x) target) (has_target es) es (λ k h. ap (eqb (resolution_of _)) c.resolution-target.ensures)
