-- What is printed of a list of cells, dissolved: the report of what came of it, as an answer or as a refusal.
-- Assumes nothing.
use Rattle.std.specs.Prelude.{ℕ, ◌≡◌, Bool, List, is_ok}
use Rattle.scope.specs.Memory.{Output}
use Rattle.text.specs.Text.{Wrote}
use Rattle.report.specs.Answers.{outline_text}
use Rattle.desk.specs.Reports.{Report, size_of, Page, report_in}
use Rattle.full_size.specs.Drawing.{Drawn}

-- the names of the two files, how many cells and their lines, the table's edges, and whether edges are named by their rows
abbrev pub zone_text : List ℕ → List ℕ → ℕ → List ℕ → List ℕ → Bool → Drawn → List ℕ
zone_text table list cells lines edges byRow d =
    outline_text table list cells lines edges byRow d.answer d.out.start d.out.size d.out.group d.out.area d.out.edges

-- the text, from the front of a slice on; the outputs; and whether the text answers or tells of a refusal
pub record Reported (table list : List ℕ) (cells : ℕ) (lines edges : List ℕ) (byRow : Bool) (d : Drawn) (before after : List ℕ) (out : Output) (r : Report) : Type 0 where
  pub text : Wrote before 0 after (size_of r) (zone_text table list cells lines edges byRow d)
  pub outputs : out ≡ d.out
  pub answers : is_ok r ≡ is_ok d.answer

-- the same in a slice, as it can be printed
abbrev pub zone_in : List ℕ → List ℕ → List ℕ → ℕ → List ℕ → List ℕ → Bool → Drawn → Page
zone_in slice table list cells lines edges byRow d = report_in slice list (zone_text table list cells lines edges byRow d) (is_ok d.answer)
