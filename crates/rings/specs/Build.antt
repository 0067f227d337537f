-- What `build_rings` asks and promises: read out's answer and outputs, as document 01 defines them over a view of the state.
-- Assumes nothing.
use Rattle.std.specs.Prelude.{ℕ, ◌≤◌, ◌≡◌, cond, List, eqb, Float, length, Ok, Err}
use Rattle.scope.specs.declared.ReadOut.{ReadOut}
use Rattle.scope.specs.declared.ReadOut.TheVariants.{Nothing, Closed, Outline}
use Rattle.scope.specs.declared.Refusal.TheVariants.{BadLengths}
use Rattle.scope.specs.Answers.{Answer}
use Rattle.scope.specs.Lists.{at, zeros}
use Rattle.scope.specs.Memory.{Output}
use Rattle.scope.specs.Order.{View, read_answer}
use Rattle.scope.specs.Calls.{written, output_fits}
use Rattle.rings.specs.Views.{Readable, MarksFit, SurveyReady}

-- the answer, from the counts and the first outer area
abbrev pub answer_of : ℕ → ℕ → ℕ → Float → ReadOut
answer_of held rings polygons first = cond (eqb held 0) Nothing (cond (eqb rings 0) Closed (Outline polygons rings first))

-- the outputs of one length
pub record OutputFits (o : Output) : Type 0 where
  pub sizes : length o.size ≡ length o.start
  pub groups : length o.group ≡ length o.start
  pub areas : length o.area ≡ length o.start

-- the rings are counted, the lowest row of each is marked 2, and the outputs have room for them
pub record WriteReady (v : View) (row_mark cell_mark : List ℕ) (o : Output) (n : ℕ) : Type 0 where
  pub survey : SurveyReady v row_mark cell_mark o.edges o.size o.group o.start o.area n
  pub start_room : n ≤ length o.start

pub record Wrote (v : View) (row_mark cell_mark : List ℕ) (o : Output) (rowMark' cellMark' : List ℕ) (o' : Output) (r : ReadOut) : Type 0 where
  pub answer : Ok r ≡ read_answer v
  pub out : o' ≡ written v o
  pub row_marks : rowMark' ≡ zeros row_mark
  pub cell_marks : cellMark' ≡ cell_mark

pub record BuildReady (v : View) (row_mark cell_mark : List ℕ) (o : Output) : Type 0 where
  pub readable : Readable v
  pub marks : MarksFit v row_mark cell_mark
  pub rows_clear : (r : ℕ) → at row_mark r ≡ 0
  pub output : OutputFits o

-- Where an output is too short the answer is refusal 10, and nothing is written.
unfoldable pub answered : View → Output → Answer
answered v o = cond (output_fits v o) (read_answer v) (Err BadLengths)

unfoldable pub left_in : View → Output → Output
left_in v o = cond (output_fits v o) (written v o) o

pub record Built (v : View) (row_mark cell_mark : List ℕ) (o : Output) (rowMark' cellMark' : List ℕ) (o' : Output) (r : Answer) : Type 0 where
  pub answer : r ≡ answered v o
  pub out : o' ≡ left_in v o
  pub row_marks : rowMark' ≡ row_mark
  pub cell_marks : cellMark' ≡ cell_mark
