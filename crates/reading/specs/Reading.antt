-- Reading out behind a verdict: what is asked, and what is left.
-- Assumes nothing.
use Rattle.std.specs.Prelude.{◌≡◌, length, Ok}
use Rattle.scope.specs.declared.Refusal.TheVariants.{BadLengths}
use Rattle.scope.specs.Answers.{require, ◌▷◌, Verdict}
use Rattle.scope.specs.Table.{Table}
use Rattle.scope.specs.Memory.{Memory, Output}
use Rattle.scope.specs.Order.{view}
use Rattle.scope.specs.Calls.{Reading, read_from, reading, output_fits}
use Rattle.rings.specs.Build.{BuildReady}

-- The state read out where a verdict accepts, output lengths last.
unfoldable pub reading_if : Verdict → Table → Memory → Output → Reading
reading_if v t m o = reading (v ▷ require (output_fits (view t m) o) BadLengths) (read_from t m o) m o

-- Where the verdict accepts, the rings can be built.
pub record ReadAsks (v : Verdict) (t : Table) (m : Memory) (o : Output) : Type 0 where
  pub head_two : v ≡ Ok tt → length m.head ≡ 2
  pub ready : v ≡ Ok tt → BuildReady (view t m) m.row_mark m.cell_mark o
