-- `rules::rules_kept` meets its contract. The rules one by one.
-- Assumes nothing.
use mathlib.Core.Bool.{not}
use mathlib.Core.Path.{◌∙◌, ap}
use Rattle.scope.specs.Cells.{resolution_of}
use Rattle.lent.specs.Lent.{table_of, read_of}
use Rattle.rules.proofs.Lent.{lent_on}
use Rattle.rules.proofs.Whole.{head_fails, counted}
use Rattle.rules.proofs.rules_kept.Goals as goal

pub returns-then-not-fits : goal.returns-then-not-fits
returns-then-not-fits c =
    let t = table_of c.args.table.now in
    let m = read_of c.args.state.now c.args.marks.now in
    head_fails t m _ _ c.at32-mode.ensures.0 c.at32-held.ensures.0 (ap not c.if-not-fits.true)

pub returns : goal.returns
returns c =
    let t = table_of c.args.table.now in
    let m = read_of c.args.state.now c.args.marks.now in
    let target = c.resolution-target.ensures ∙ ap resolution_of c.at64.ensures in
    let slots = lent_on t m c.requires _ c.slots_kept.ensures in
    counted t m _ _ c.at32-mode.ensures.0 c.at32-held.ensures.0
    (ap not c.if-not-fits.false) target c.cells_kept.ensures c.set_count.ensures c.set_count-2.ensures slots c.all_cleared.ensures
    c.all_cleared-2.ensures c.parents_kept.ensures c.ranks_kept.ensures
