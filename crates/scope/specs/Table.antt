-- Document 01, "The edge table (added)".
-- Assumes nothing.
use Rattle.std.specs.Prelude.{ℕ, ◌-◌, Bool, true, false, ◌&&◌, ◌||◌, not, List, map, eqb, leb, ltb, length, get_or, Float, Option}
use Rattle.std.specs.Float.{nan, inf, fin}
use Rattle.scope.specs.declared.Refusal.TheVariants.{BadTable}
use Rattle.scope.specs.Lists.{at, first_bad, passes}
use Rattle.scope.specs.Answers.{require, require_none, ◌▷◌, found_below, Verdict}
use Rattle.scope.specs.Cells.{resolution_of, valid_edge}
use Rattle.scope.specs.Walk.{outline}

-- Three slices of one length: edge numbers, reverse rows, and one finite f64 area term a row.
pub record Table : Type 0 where
  pub edges : List ℕ
  pub reverse : List ℕ
  pub area : List Float

abbrev pub table : List ℕ → List ℕ → List Float → Table
table edges reverse area = record { edges = edges; reverse = reverse; area = area }

abbrev pub row_count : Table → ℕ
row_count t = length t.edges

abbrev pub reverse_of : Table → ℕ → ℕ
reverse_of t a = at t.reverse a

unfoldable pub is_finite : Float → Bool
is_finite nan = false
is_finite (inf s) = false
is_finite (fin s m e) = true

-- 2 to 65,536 rows.
abbrev pub row_count_fits : ℕ → Bool
row_count_fits n = leb 2 n && leb n 65536

-- Of one resolution (the target).
abbrev pub target_of : Table → ℕ
target_of t = resolution_of (at t.edges 0)

abbrev pub has_target : List ℕ → ℕ → Bool
has_target es i = eqb (resolution_of (at es i)) (resolution_of (at es 0))

-- Strictly ascending. Of two rows out of order the later is the bad one.
unfoldable pub ascends : List ℕ → ℕ → Bool
ascends es i = eqb i 0 || ltb (at es (i - 1)) (at es i)

-- The reverse row is in range, isn't the row itself, and names this row back.
unfoldable pub paired : List ℕ → ℕ → Bool
paired rs i = ltb (at rs i) (length rs) && not (eqb (at rs i) i) && eqb (at rs (at rs i)) i

-- A row that breaks no rule.
unfoldable pub row_good : Table → ℕ → Bool
row_good t i = valid_edge (at t.edges i) && ascends t.edges i && paired t.reverse i && is_finite (get_or t.area i nan)

-- Refusal 1: 0 for a bad row count or, tested next, unequal resolution fields; else the lowest bad row.
unfoldable pub table_verdict : Table → Verdict
table_verdict t =
    require (row_count_fits (row_count t)) (BadTable 0)
    ▷ require (passes (has_target t.edges) (row_count t)) (BadTable 0)
    ▷ require_none BadTable (row_count t) (first_bad (row_good t) (row_count t))

-- The row of an edge: the lowest that holds it, and the row count where none does.
abbrev pub is_other : List ℕ → ℕ → ℕ → Bool
is_other es e i = not (eqb (at es i) e)

unfoldable pub row_of : List ℕ → ℕ → ℕ
row_of es e = first_bad (is_other es e) (length es)

unfoldable pub find_row : List ℕ → ℕ → Option ℕ
find_row es e = found_below (length es) (row_of es e)

-- The outline (walk to the target) of a cell, as rows.
unfoldable pub outline_rows : Table → ℕ → List ℕ
outline_rows t x = map (row_of t.edges) (outline x (target_of t))
