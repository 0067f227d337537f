-- A zone as lines for the tills: one with its file's name and its answer in words, then each ring as a list on one line.
-- Assumes nothing.
use Rattle.std.specs.Prelude.{ℕ, List, [], ◌++◌, Float, Err, Ok}
use Rattle.scope.specs.Answers.{Answer, refusal_number, refusal_index}
use Rattle.scope.specs.declared.ReadOut.{ReadOut}
use Rattle.scope.specs.declared.ReadOut.TheVariants.{Nothing, Closed, Outline}
use Rattle.scope.specs.Lists.{at}
use Rattle.scope.specs.Memory.{Output}
use Rattle.text.specs.Text.{ascii, shown}
use Rattle.note_text.specs.Notes.{noted, area_text}
use Rattle.outline_text.specs.Outlines.{standing}
use Rattle.refusal_text.specs.Refusals.{refusal_text}
use Rattle.ring_lines.specs.Rings.{ring_lines}

-- what an outline counts
unfoldable pub counts_text : ℕ → ℕ → ℕ → ℕ → Float → List ℕ
counts_text cells polygons rings edges first =
    noted (ascii ": outline, cells ") cells []
    ++ noted (ascii ", polygons ") polygons []
    ++ noted (ascii ", rings ") rings []
    ++ noted (ascii ", standing edges ") edges (ascii ", first outer area ")
    ++ area_text first
    ++ ascii "\n"

-- The list's name; how many cells; the table's edges; what dissolve read out, and where it wrote it.
unfoldable pub read_out_text : List ℕ → ℕ → List ℕ → ReadOut → Output → List ℕ
read_out_text list cells edges Nothing o = shown list ++ ascii ": nothing, cells 0, polygons 0, rings 0, standing edges 0\n"
read_out_text list cells edges Closed o = shown list ++ noted (ascii ": closed, cells ") cells (ascii ", polygons 0, rings 0, standing edges 0\n")
read_out_text list cells edges (Outline polygons rings first) o =
    shown list ++ counts_text cells polygons rings (standing o.start o.size rings) first ++ ring_lines edges o rings

-- The names of the two files; how many cells, and their lines; the table's edges; the answer and what was read out. A refusal is one line alone.
unfoldable pub zone_text : List ℕ → List ℕ → ℕ → List ℕ → List ℕ → Answer → Output → List ℕ
zone_text table list cells lines edges (Ok read) o = read_out_text list cells edges read o
zone_text table list cells lines edges (Err why) o = refusal_text table list (refusal_number why) (refusal_index why) (at lines (refusal_index why))
