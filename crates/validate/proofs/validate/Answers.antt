-- `validate::validate` meets its contract. Each return by the tests before it.
-- Assumes nothing.
use mathlib.Core.Path.{◌∙◌, sym}
use Rattle.validate.proofs.Stages.{all_valid, invalid_stage, stages}
use Rattle.validate.proofs.validate.Goals as goal

pub returns-in-Some : goal.returns-in-Some
returns-in-Some c = sym (invalid_stage _ _ _ _ _ (sym c.invalid_cell.ensures ∙ c.in-Some.is))

pub lowest_clashes-clashes-requires : goal.lowest_clashes-clashes-requires
lowest_clashes-clashes-requires c = all_valid c.args.cells.now (sym c.invalid_cell.ensures ∙ c.in_default.is)

pub returns-in-Some-second : goal.returns-in-Some-second
returns-in-Some-second c =
    rw (stages _ _ _ _ c.lowest_clashes-clashes.ensures, ← c.invalid_cell.ensures, c.in_default.is, c.in-Some-second.is)

pub returns-in-Some-unfit_cell : goal.returns-in-Some-unfit_cell
returns-in-Some-unfit_cell c =
    rw (stages _ _ _ _ c.lowest_clashes-clashes.ensures, ← c.invalid_cell.ensures, c.in_default.is, c.in_default-second.is, ← c.unfit_cell.ensures, c.in-Some-unfit_cell.is)

pub returns-in-Some-nested : goal.returns-in-Some-nested
returns-in-Some-nested c =
    rw (stages _ _ _ _ c.lowest_clashes-clashes.ensures, ← c.invalid_cell.ensures, c.in_default.is, c.in_default-second.is, ← c.unfit_cell.ensures, c.in_default-unfit_cell.is, c.in-Some-nested.is)

pub returns : goal.returns
returns c =
    rw (stages _ _ _ _ c.lowest_clashes-clashes.ensures, ← c.invalid_cell.ensures, c.in_default.is, c.in_default-second.is, ← c.unfit_cell.ensures, c.in_default-unfit_cell.is, c.in_default-nested.is)
    c.room_for.ensures
