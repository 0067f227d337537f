-- What dissolve promises: the answer, the memory and the outputs are what `scope` says of the call. Open, offer and read out promise what
-- `standing` says.
-- Assumes nothing.
use Rattle.std.specs.Prelude.{ℕ, ◌≡◌, List}
use Rattle.scope.specs.Answers.{Answer}
use Rattle.scope.specs.Table.{Table}
use Rattle.scope.specs.Memory.{Memory, Output}
use Rattle.scope.specs.Calls.{dissolving}

-- of a table, the memory lent, a mode, a list of cells and the outputs: this answer, and this memory and these outputs left
abbrev pub Dissolves : Table → Memory → ℕ → List ℕ → Output → Answer → Memory → Output → Type 0
Dissolves t m mode cs o answer left out = record { answer = answer; left = left; out = out } ≡ dissolving t m mode cs o
