-- `dissolving::work` meets its contract. The list taken, then the end.
-- Assumes nothing.
use mathlib.Core.Path.{◌∙◌}
use Rattle.taking.proofs.Sizes.{sized_same}
use Rattle.dissolving.proofs.Finishing.{finish_asks, worked}
use Rattle.dissolving.proofs.work.Goals as goal

pub finish-requires : goal.finish-requires
finish-requires c =
    let filled = c.fill-verdict.ensures in
    finish_asks c.requires filled.takes_all (sized_same filled.same_memory filled.same_marks)

pub returns-clause-works : goal.returns-clause-works
returns-clause-works c =
    let filled = c.fill-verdict.ensures in
    c.finish.ensures.finishes ∙ worked c.requires filled.takes_all (sized_same filled.same_memory filled.same_marks)
