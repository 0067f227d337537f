-- `placing::place_after` meets its contract, by the two ways of its test.
-- Assumes nothing.
use native.Mathlib.Omega.{arith}
use mathlib.Core.Path.{sym, ◌∙◌}
use native.Mathlib.Numerals.{add-one}
use Rattle.scope.proofs.Outlines.{onward_mid, onward_end}
use Rattle.placing.proofs.place_after.Goals as goal

pub returns-then-i-n : goal.returns-then-i-n
returns-then-i-n c = sym (onward_end _ _ (sym (add-one _) ∙ c.if-i-n.true))

pub returns-else-i-n : goal.returns-else-i-n
returns-else-i-n c = add-one _ ∙ sym (onward_mid _ _ (omega arith))
