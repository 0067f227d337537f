-- The rules of a table that a pass over one column can tell.
-- Assumes nothing.
use Rattle.std.specs.Prelude.{ℕ, ◌-◌, ◌*◌, ◌/◌, ◌^◌, ◌<◌, ◌≤◌, ◌≡◌, Bool, true, not, ◌&&◌, List, eqb, leb, ltb, length, get_or, Float}
use Rattle.std.specs.Int.Bits.{bit_and}
use Rattle.std.specs.Float.{nan}
use Rattle.scope.specs.Lists.{at, passes}
use Rattle.scope.specs.Cells.{resolution_of, base_cell, is_pentagon}
use Rattle.scope.specs.Table.{Table, row_count, target_of, has_target, is_finite, ascends, paired, row_good}

-- The target's resolution, and a base cell.
abbrev pub fields_kept : ℕ → List ℕ → ℕ → Bool
fields_kept target es i = eqb (resolution_of (at es i)) target && leb (base_cell (at es i)) 121

-- A one at the lowest bit of each of the fifteen digits, and of those that are 7: all three bits are set.
abbrev pub ones : ℕ
ones = 0o111111111111111

abbrev pub sevens : ℕ → ℕ
sevens x = bit_and (bit_and (bit_and x (x / 2)) (x / 4)) ones

abbrev pub sevens_kept : ℕ → List ℕ → ℕ → Bool
sevens_kept wanted es i = eqb (sevens (at es i)) wanted

-- What the pass over the edges has shown.
pub record EdgesKept (wanted : ℕ) (es : List ℕ) : Type 0 where
  pub digits : passes (sevens_kept wanted es) (length es) ≡ true
  pub order : passes (ascends es) (length es) ≡ true

-- Not edge 1 of a pentagon, by the top byte.
abbrev pub side_kept : List ℕ → ℕ → Bool
side_kept es i = not (is_pentagon (at es i) && eqb (at es i / 2 ^ 56) 17)

abbrev pub finite_at : List Float → ℕ → Bool
finite_at terms i = is_finite (get_or terms i nan)

-- The reverse is in the second half, from `half` on, and names the row back.
abbrev pub crosses : ℕ → List ℕ → ℕ → Bool
crosses half rs i = leb half (at rs i) && ltb (at rs i) (length rs) && eqb (at rs (at rs i)) i

-- No row with these fields above its digits is edge 1 of a pentagon.
pub record NoSide (es : List ℕ) (fields : ℕ) : Type 0 where
  pub none : (k : ℕ) → k < length es → at es k / 2 ^ 45 ≡ fields → side_kept es k ≡ true

-- Edges in order, with the target's resolution and a base cell.
pub record SidesAsk (es : List ℕ) (target : ℕ) : Type 0 where
  pub small : target < 16
  pub order : passes (ascends es) (length es) ≡ true
  pub fields : passes (fields_kept target es) (length es) ≡ true

-- What the passes over the columns have shown.
pub record Columns (t : Table) : Type 0 where
  pub first : 17 ≤ at t.edges 0 / 2 ^ 56
  pub last : at t.edges (row_count t - 1) / 2 ^ 56 ≤ 22
  pub digits : passes (sevens_kept (ones / 2 ^ (3 * target_of t)) t.edges) (row_count t) ≡ true
  pub order : passes (ascends t.edges) (row_count t) ≡ true
  pub pairs : passes (paired t.reverse) (length t.reverse) ≡ true
  pub finite : passes (finite_at t.area) (length t.area) ≡ true

-- Every row has the target's resolution and breaks no rule, where the columns have one length.
pub record NoneBad (t : Table) : Type 0 where
  pub targets : passes (has_target t.edges) (row_count t) ≡ true
  pub rows : row_count t ≤ length t.reverse → row_count t ≤ length t.area → passes (row_good t) (row_count t) ≡ true
