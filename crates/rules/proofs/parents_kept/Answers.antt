-- `rules::parents_kept` meets its contract.
-- Assumes nothing.
use mathlib.Core.Path.{refl, ◌∙◌}
use native.Mathlib.Omega.{arith}
use Rattle.std.proofs.Common.{rules, tests}
use Rattle.std.proofs.lemmas.Iterator.{YieldsList-from_range}
use Rattle.std.proofs.lemmas.Iterator.Search.{all_from_yields_List}
use Rattle.scope.specs.Rules.{parent_kept}
use Rattle.slot_rules.proofs.Sweeps.{all_passes}
use Rattle.rules.specs.Slices.{forest}
use Rattle.rules.proofs.parents_kept.Goals as goal

pub returns : goal.returns
returns c =
    let test = parent_kept (forest c.args.held c.args.parent.now c.args.rank.now) in
    all_from_yields_List test _ _ _ c.all.ensures.ran (YieldsList-from_range 0 c.args.held c.args.held refl (omega arith)) (λ x b q k. search (rules, tests))
    ∙ all_passes test c.args.held
