-- An audit of a feed, in memory of full size: the feed is offered to a state that is opened for it and what stands is read out; then the held
-- cells are dissolved afresh and the two compared. What comes of it depends on the table, the feed and the lent outputs alone.
-- Assumes nothing.
use Rattle.std.specs.Prelude.{ℕ, Bool, ◌&&◌, List, [], length}
use Rattle.scope.specs.Answers.{if_accepted, Answer, Verdict}
use Rattle.scope.specs.Table.{Table}
use Rattle.scope.specs.Memory.{Memory, Output, held_cells}
use Rattle.scope.specs.Calls.{opening, reading_out}
use Rattle.audit.specs.Feed.{Fed, feeding}
use Rattle.audit.specs.Same.{same_answer, same_output}
use Rattle.full_size.specs.Drawing.{full_memory, drawing}

-- ---- in any memory

pub record Begun : Type 0 where
  pub opened : Verdict
  pub fed : Fed

-- The feed offered to a state that is opened for it, naming no mode. Where the opening is refused nothing is offered.
unfoldable pub beginning : Table → Memory → List ℕ → Begun
beginning t m xs =
    let begun = opening t m 2 in
    record { opened = begun.answer; fed = feeding t begun.left (if_accepted begun.answer xs []) }

pub record FedRead : Type 0 where
  pub opened : Verdict
  pub counts : List ℕ
  pub answer : Answer
  pub left : Memory
  pub out : Output

-- Then what stands is read out.
unfoldable pub reading_fed : Table → Memory → List ℕ → Output → FedRead
reading_fed t m xs o =
    let begun = beginning t m xs in
    let read = reading_out t begun.fed.left o in
    record { opened = begun.opened; counts = begun.fed.counts; answer = read.answer; left = read.left; out = read.out }

-- ---- in memory of full size

pub record Standing : Type 0 where
  pub opened : Verdict
  -- how many offers have each number; an accepted one has 0
  pub counts : List ℕ
  -- the held cells, in the order of their acceptance
  pub cells : List ℕ
  pub answer : Answer
  pub out : Output

abbrev pub stood : FedRead → Standing
stood r = record { opened = r.opened; counts = r.counts; cells = held_cells r.left; answer = r.answer; out = r.out }

unfoldable pub standing : Table → List ℕ → Output → Standing
standing t xs o = stood (reading_fed t (full_memory t) xs o)

pub record Compared : Type 0 where
  pub same : Bool
  pub anew : Output

-- Cells dissolved afresh, and whether that gives the answer r and the output o.
unfoldable pub comparing : Table → List ℕ → Answer → Output → Output → Compared
comparing t cs r o p =
    let again = drawing t 2 cs p in
    record { same = same_answer r again.answer && same_output o again.out; anew = again.out }

-- ---- the whole

pub record Audit : Type 0 where
  pub opened : Verdict
  pub counts : List ℕ
  -- one visit to each held cell
  pub visits : ℕ
  pub answer : Answer
  -- the outline dissolved afresh is the standing one
  pub same : Bool
  pub out : Output
  pub anew : Output

unfoldable pub auditing : Table → List ℕ → Output → Output → Audit
auditing t xs o p =
    let stands = standing t xs o in
    let compared = comparing t stands.cells stands.answer stands.out p in
    record {
      opened = stands.opened;
      counts = stands.counts;
      visits = length stands.cells;
      answer = stands.answer;
      same = compared.same;
      out = stands.out;
      anew = compared.anew;
    }
