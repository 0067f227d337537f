-- `edge_table::straight::each_paired` meets its contract.
-- Assumes nothing.
use mathlib.Core.Bool.{true, ◌&&◌}
use mathlib.Core.Path.{refl, ◌∙◌}
use lib.ListN.{length}
use Rattle.std.proofs.Common.{arith, rules, tests}
use Rattle.std.proofs.lemmas.Iterator.{YieldsList-from_range}
use Rattle.std.proofs.lemmas.Iterator.Consumers.{fold_from_yields_List}
use Rattle.scope.specs.Table.{paired}
use Rattle.scope.proofs.Iterated.{fold_range}
use Rattle.edge_table.proofs.straight.each_paired.Goals as goal

pub returns : goal.returns
returns c =
    let rs = c.args.reverse.now in
    let n = length rs in
    fold_from_yields_List _ (λ kept i. kept && paired rs i) true c.fold.result c.fold.ensures.ran (YieldsList-from_range 0 n n refl (omega arith)) (λ kept i b q k. search (rules, tests))
    ∙ fold_range (paired rs) n
