-- What open, offer and read out promise: the answer and the memory, and of read out the outputs, are what `scope` says of the call.
-- proofs/Determined has that each leaves one outcome.
-- Assumes nothing.
use Rattle.std.specs.Prelude.{ℕ, ◌≡◌}
use Rattle.scope.specs.Answers.{Answer, Verdict}
use Rattle.scope.specs.Table.{Table}
use Rattle.scope.specs.Memory.{Memory, Output}
use Rattle.scope.specs.Calls.{opening, offering, reading_out}

-- of a table, the memory lent and a mode: this answer, and this memory left
abbrev pub Opens : Table → Memory → ℕ → Verdict → Memory → Type 0
Opens t m mode answer left = record { answer = answer; left = left } ≡ opening t m mode

-- of a table, the memory lent and a cell
abbrev pub Offers : Table → Memory → ℕ → Verdict → Memory → Type 0
Offers t m cell answer left = record { answer = answer; left = left } ≡ offering t m cell

-- of a table, the memory lent and the outputs
abbrev pub ReadsOut : Table → Memory → Output → Answer → Memory → Output → Type 0
ReadsOut t m o answer left out = record { answer = answer; left = left; out = out } ≡ reading_out t m o
