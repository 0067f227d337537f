-- Dissolve in memory of full size: 65,536 slots, 16,384 places, and as many rows as the table has, up to 65,536. What it answers and
-- writes out does not depend on what the memory held, which is taken as cleared; what it leaves there is not told.
-- Assumes nothing.
use Rattle.std.specs.Prelude.{ℕ, min, List}
use Rattle.scope.specs.Answers.{Answer}
use Rattle.scope.specs.Table.{Table, row_count}
use Rattle.scope.specs.Memory.{Memory, Output}
use Rattle.scope.specs.Calls.{Reading, dissolving}
use Rattle.scope.specs.Bytes.{cleared}

-- the answer and the outputs
pub record Drawn : Type 0 where
  pub answer : Answer
  pub out : Output

abbrev pub drawn : Reading → Drawn
drawn r = record { answer = r.answer; out = r.out }

abbrev pub full_memory : Table → Memory
full_memory t = cleared (min (row_count t) 65536) 65536 16384

unfoldable pub drawing : Table → ℕ → List ℕ → Output → Drawn
drawing t mode cs o = drawn (dissolving t (full_memory t) mode cs o)
