-- Document 01, "The part that comes over" and "Numbered refusals, in order of test": open, offer, read out and dissolve, as functions from
-- the table, the memory and the arguments to the answer and the memory.
-- Assumes nothing.
use Rattle.std.specs.Prelude.{ℕ, Bool, ◌&&◌, List, [], ◌∷◌, ◌++◌, map, leb, length, drop, Err, Ok}
use Rattle.scope.specs.declared.Refusal.TheVariants.{BrokenState, BadLengths}
use Rattle.scope.specs.Answers.{require, ◌▷◌, if_accepted, Answer, Verdict}
use Rattle.scope.specs.Table.{Table, target_of, table_verdict, outline_rows}
use Rattle.scope.specs.CellLists.{list_verdict, cell_verdict}
use Rattle.scope.specs.Memory.{Memory, Output, kept_mode, held_cells, places, opened, kept, lengths_fit, outputs_agree, mode_fits}
use Rattle.scope.specs.Rules.{rules_kept}
use Rattle.scope.specs.Pool.{outline_verdict, taking}
use Rattle.scope.specs.Order.{View, view, area_at, group_at, ordered, starts, sizes, edge_rows, read_answer}

-- ---- open and offer

pub record Outcome : Type 0 where
  pub answer : Verdict
  pub left : Memory

-- A refusal writes nothing.
abbrev pub outcome : Verdict → Memory → Memory → Outcome
outcome v after before = record { answer = v; left = if_accepted v after before }

-- Open: 10, 1.
unfoldable pub open_verdict : Table → Memory → ℕ → Verdict
open_verdict t m mode = require (lengths_fit t m && mode_fits mode) BadLengths ▷ table_verdict t

unfoldable pub opening : Table → Memory → ℕ → Outcome
opening t m mode = outcome (open_verdict t m mode) (opened mode m) m

-- Offer and read out: 10, 1, 9.
unfoldable pub state_verdict : Table → Memory → Verdict
state_verdict t m = require (lengths_fit t m) BadLengths ▷ table_verdict t ▷ require (rules_kept t m) BrokenState

-- Offer: 10, 1, 9, 2, 3, 4, 3, 8, 5, 6, 7.
unfoldable pub offer_verdict : Table → Memory → ℕ → Verdict
offer_verdict t m x =
    state_verdict t m
    ▷ cell_verdict (kept_mode m) (target_of t) (places m) (held_cells m) x
    ▷ outline_verdict t m (outline_rows t x)

unfoldable pub offering : Table → Memory → ℕ → Outcome
offering t m x = outcome (offer_verdict t m x) (taking t m x) m

-- ---- read out

pub record Reading : Type 0 where
  pub answer : Answer
  pub left : Memory
  pub out : Output

-- What lies past the written part stays as it was.
abbrev pub over : {A : Type 0} → List A → List A → List A
over new old = new ++ drop (length new) old

unfoldable pub written : View → Output → Output
written v o =
    let l = ordered v in
    record {
      start = over (starts v 0 l) o.start;
      size = over (sizes v l) o.size;
      group = over (map (group_at v) l) o.group;
      area = over (map (area_at v) l) o.area;
      edges = over (edge_rows v l) o.edges;
    }

-- 10 unless the outputs are long enough for what must be written.
unfoldable pub output_fits : View → Output → Bool
output_fits v o = leb (length (ordered v)) (length o.start) && leb (length (edge_rows v (ordered v))) (length o.edges)

-- the state m, read out
abbrev pub read_from : Table → Memory → Output → Reading
read_from t m o = record { answer = read_answer (view t m); left = m; out = written (view t m) o }

-- carried out, or refused with this memory left and the outputs untouched
abbrev pub reading : Verdict → Reading → Memory → Output → Reading
reading (Ok _) done m o = done
reading (Err why) done m o = record { answer = Err why; left = m; out = o }

-- Read out: 10, 1, 9; an output too short is tested after 9. Read out leaves the state as it was.
unfoldable pub read_verdict : Table → Memory → Output → Verdict
read_verdict t m o = require (outputs_agree o) BadLengths ▷ state_verdict t m ▷ require (output_fits (view t m) o) BadLengths

unfoldable pub reading_out : Table → Memory → Output → Reading
reading_out t m o = reading (read_verdict t m o) (read_from t m o) m o

-- ---- dissolve

-- Offers in list order, up to the first that is refused.
unfoldable pub offering_all : Table → Memory → List ℕ → Outcome
offering_all t m [] = record { answer = Ok tt; left = m }
offering_all t m (x ∷ xs) =
    let first = offering t m x in
    let rest = offering_all t first.left xs in
    if_accepted first.answer rest first

-- Dissolve tests 10, 1, then 2, 3, 4, 3, 8 over the whole list.
unfoldable pub dissolve_verdict : Table → Memory → ℕ → List ℕ → Output → Verdict
dissolve_verdict t m mode cs o =
    require (outputs_agree o) BadLengths ▷ open_verdict t m mode ▷ list_verdict (kept mode) (target_of t) (places m) cs

-- Then open, offers in list order (5, 6, 7 for each cell in turn), and read out, output lengths last. Refused by these, dissolve leaves
-- the work memory as newly opened, the outputs untouched.
unfoldable pub working : Table → Memory → ℕ → List ℕ → Output → Reading
working t m mode cs o =
    let fresh = opened mode m in
    let last = offering_all t fresh cs in
    reading (last.answer ▷ require (output_fits (view t last.left) o) BadLengths) (read_from t last.left o) fresh o

-- Every other refusal writes nothing.
unfoldable pub dissolving : Table → Memory → ℕ → List ℕ → Output → Reading
dissolving t m mode cs o = reading (dissolve_verdict t m mode cs o) (working t m mode cs o) m o
