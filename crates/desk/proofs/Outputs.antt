-- Cleared arrays of full size are a new output.
-- Assumes nothing.
use mathlib.Core.Path.{◌≡◌}
use Rattle.scope.specs.Memory.{Output}
use Rattle.lent.specs.Arrays.{outputs_within}
use Rattle.desk.specs.Outputs.{new_output}

pub new_output_is : {o : Output} → o ≡ outputs_within 32768 32768 → o ≡ new_output
unfolding new_output
new_output_is e = e
