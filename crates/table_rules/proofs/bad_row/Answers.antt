-- `table_rules::bad_row` meets its contract. A scan.
-- Assumes nothing.
use mathlib.Core.Bool.{true, false}
use mathlib.Core.Path.{◌≡◌}
use lib.ListN.{length}
use Rattle.std.proofs.Common.{rules, tests}
use Rattle.std.proofs.lemmas.Iterator.{first_from_Range}
use Rattle.scope.specs.Table.{table, row_good}
use Rattle.scope.proofs.Iterated.{find_range}
use Rattle.table_rules.proofs.bad_row.Goals as goal

pub returns : goal.returns
returns c =
    let a = c.args in
    let good = row_good (table a.edges.now a.reverse.now a.area.now) in
    find_range good (length a.edges.now) c.find.result
    (first_from_Range _ _ _ c.find.result (λ i. good i ≡ false) (λ i. good i ≡ true) c.find.ensures.ran (λ x q k. search (rules, tests)) (λ x q k. search (rules, tests)))
