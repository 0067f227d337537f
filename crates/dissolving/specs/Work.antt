-- Dissolve's work by its two halves: what each is asked, and what the second leaves.
-- Assumes nothing.
use Rattle.std.specs.Prelude.{◌≡◌, true, List, ℕ, length}
use Rattle.scope.specs.declared.Refusal.TheVariants.{BadLengths}
use Rattle.scope.specs.Answers.{require, ◌▷◌, Verdict}
use Rattle.scope.specs.Table.{Table}
use Rattle.scope.specs.Memory.{Memory, Output, opened, outputs_agree}
use Rattle.scope.specs.Order.{view}
use Rattle.scope.specs.Calls.{Reading, read_from, reading, output_fits}
use Rattle.taking.specs.Taking.{ListAsks}
use Rattle.reading.specs.Reading.{ReadAsks}

-- The head has its two numbers, and the newly opened state can take the list.
pub record FillAsks (t : Table) (m : Memory) (mode : ℕ) (cs : List ℕ) : Type 0 where
  pub head_two : length m.head ≡ 2
  pub list : ListAsks t (opened mode m) cs

-- The state read out where a verdict accepts, output lengths last; refused, the state is opened anew.
unfoldable pub finishing : Verdict → Table → ℕ → Memory → Output → Reading
finishing v t mode m o = reading (v ▷ require (output_fits (view t m) o) BadLengths) (read_from t m o) (opened mode m) o

pub record FinishAsks (v : Verdict) (t : Table) (m : Memory) (o : Output) : Type 0 where
  pub head_two : length m.head ≡ 2
  pub asks : ReadAsks v t m o

-- The same of the whole: the list can be taken, and the outputs agree in length.
pub record WorkAsks (t : Table) (m : Memory) (mode : ℕ) (cs : List ℕ) (o : Output) : Type 0 where
  pub fill : FillAsks t m mode cs
  pub agree : outputs_agree o ≡ true
