-- What a call answered, as text: what it counts, and nothing, closed, or each ring; or a refusal in words.
-- Assumes nothing.
use Rattle.std.specs.Prelude.{ℕ, Bool, List, ◌++◌, Float, length, Err, Ok}
use Rattle.scope.specs.declared.ReadOut.{ReadOut}
use Rattle.scope.specs.declared.ReadOut.TheVariants.{Nothing, Closed, Outline}
use Rattle.scope.specs.Answers.{Answer, refusal_number, refusal_index}
use Rattle.scope.specs.Lists.{at}
use Rattle.text.specs.Text.{ascii}
use Rattle.outline_text.specs.Outlines.{standing, summary_text, rings_text}
use Rattle.refusal_text.specs.Refusals.{refusal_text}

-- no edge stands: what is counted of so many cells over so many rows
abbrev pub none_text : ℕ → ℕ → List ℕ
none_text rows cells = summary_text rows cells 0 0 0

-- an outline of so many cells: what it counts, then each ring
abbrev pub counted_text : ℕ → List ℕ → Bool → ℕ → ℕ → List ℕ → List ℕ → List ℕ → List Float → List ℕ → List ℕ
counted_text cells edges rows polygons rings start size group area rowList =
    summary_text (length edges) cells polygons rings (standing start size rings)
    ++ rings_text edges rows start size group area rowList rings

-- what was read out of so many cells
unfoldable pub read_out_text : ℕ → List ℕ → Bool → ReadOut → List ℕ → List ℕ → List ℕ → List Float → List ℕ → List ℕ
read_out_text cells edges rows Nothing start size group area rowList = none_text (length edges) cells ++ ascii "nothing: the list has no cells\n"
read_out_text cells edges rows Closed start size group area rowList = none_text (length edges) cells ++ ascii "closed: no edge stands\n"
read_out_text cells edges rows (Outline polygons rings first) start size group area rowList =
    counted_text cells edges rows polygons rings start size group area rowList

-- The whole report of `outline`: the names of the two files; how many cells, and their lines; the table's edges; the answer and what was written.
unfoldable pub outline_text : List ℕ → List ℕ → ℕ → List ℕ → List ℕ → Bool → Answer → List ℕ → List ℕ → List ℕ → List Float → List ℕ → List ℕ
outline_text table list cells lines edges rows (Ok read) start size group area rowList = read_out_text cells edges rows read start size group area rowList
outline_text table list cells lines edges rows (Err why) start size group area rowList =
    refusal_text table list (refusal_number why) (refusal_index why) (at lines (refusal_index why))
