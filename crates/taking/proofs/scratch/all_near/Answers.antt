-- `taking::scratch::all_near` meets its contract. A scan.
-- Assumes nothing.
use mathlib.Core.Path.{refl, ◌∙◌}
use Rattle.std.proofs.Common.{rules, tests}
use Rattle.std.proofs.lemmas.Iterator.{YieldsList-from_slice}
use Rattle.std.proofs.lemmas.Iterator.Search.{all_from_yields_List}
use Rattle.scope.proofs.Iterated.{all_scan}
use Rattle.taking.specs.Outlines.{is_near, near_at}
use Rattle.taking.proofs.scratch.all_near.Goals as goal

pub returns : goal.returns
returns c =
    let cs = c.args.list.now in
    all_from_yields_List (is_near c.args.target) _ _ _ c.all.ensures.ran (YieldsList-from_slice cs cc) (λ x b q k. search (rules, tests))
    ∙ all_scan 0 (is_near c.args.target) (near_at c.args.target cs) cs (λ k h. refl)
