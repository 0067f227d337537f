-- A feed: cells in the order of arrival, replays and all, offered one by one to a standing state.
-- Its verdicts, the memory it leaves, the cells it has accepted, and how many verdicts have each number.
-- Assumes nothing.
use Rattle.std.specs.Prelude.{ℕ, ◌+◌, ◌-◌, cond, List, [], ◌∷◌, eqb}
use Rattle.scope.specs.Lists.{at, tabulate}
use Rattle.scope.specs.Answers.{refusal_of, if_accepted, Verdict}
use Rattle.scope.specs.Table.{Table}
use Rattle.scope.specs.Memory.{Memory}
use Rattle.scope.specs.Calls.{offering}

-- ---- the offers, in turn

unfoldable pub verdicts : Table → Memory → List ℕ → List Verdict
verdicts t m [] = []
verdicts t m (x ∷ xs) = let o = offering t m x in o.answer ∷ verdicts t o.left xs

unfoldable pub left_by : Table → Memory → List ℕ → Memory
left_by t m [] = m
left_by t m (x ∷ xs) = left_by t (offering t m x).left xs

-- the cells that are accepted, in their order
unfoldable pub accepted_of : Table → Memory → List ℕ → List ℕ
accepted_of t m [] = []
accepted_of t m (x ∷ xs) =
    let o = offering t m x in
    let rest = accepted_of t o.left xs in
    if_accepted o.answer (x ∷ rest) rest

-- ---- the tally

-- how many verdicts have a number; an accepted offer has 0
unfoldable pub count_of : ℕ → List Verdict → ℕ
count_of number [] = 0
count_of number (v ∷ vs) = cond (eqb (refusal_of v) number) 1 0 + count_of number vs

-- of each number from 0 to 10
unfoldable pub tally : List Verdict → List ℕ
tally vs = tabulate (λ number. count_of number vs) 11

pub record Fed : Type 0 where
  pub counts : List ℕ
  pub left : Memory

unfoldable pub feeding : Table → Memory → List ℕ → Fed
feeding t m xs = record { counts = tally (verdicts t m xs); left = left_by t m xs }

-- ---- what a tally says

abbrev pub accepted_in : List ℕ → ℕ
accepted_in counts = at counts 0

-- A replay is an offer of a cell that is held: in even mode, just what is refused by 3.
abbrev pub replays_in : List ℕ → ℕ
replays_in counts = at counts 3

-- A till credits a visit once for each outline around it. Of one visit to each held cell: drawn without the check, every replay is one
-- more outline around its cell; here only what is accepted is drawn.
abbrev pub points_unchecked : List ℕ → ℕ
points_unchecked counts = accepted_in counts + replays_in counts

abbrev pub points_credited : List ℕ → ℕ
points_credited counts = accepted_in counts

-- the points credited beyond one for each visit
abbrev pub points_over : ℕ → List ℕ → ℕ
points_over visits counts = points_credited counts - visits
