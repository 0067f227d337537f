-- What a tool lends for an outline: outputs of full size that hold zeros.
-- Assumes nothing.
use Rattle.scope.specs.Memory.{Output}
use Rattle.lent.specs.Arrays.{outputs_within}

unfoldable pub new_output : Output
new_output = outputs_within 32768 32768
