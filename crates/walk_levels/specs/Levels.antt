-- The levels of a walk over the finest one, and the number that has their digits.
-- Throughout, c is the cell's resolution, x the number, ps the positions before and qs those after.
-- Assumes nothing.
use Rattle.std.specs.Prelude.{◌≡◌, Bool, true, false, ◌&&◌, not, cond, List, ℕ, ◌+◌, ◌-◌, ◌*◌, ◌/◌, ◌%◌, ◌^◌, ◌<◌, ◌≤◌, eqb, leb, ltb, set}
use Rattle.scope.specs.Lists.{at}
use Rattle.scope.specs.Cells.{digit, weight}
use Rattle.scope.specs.Walk.{Moved, walk_digit, still, next_position, asks_parent, move, spell}
use Rattle.scope.proofs.Odometer.{Fine}
use Rattle.walk_levels.specs.declared.Written.{Written}

-- x with d as its digit of resolution r
abbrev pub with_digit : ℕ → ℕ → ℕ → ℕ
with_digit x r d = x - digit x r * weight r + d * weight r

-- the digit is written, and whether it was another
pub record DigitSet (x r d : ℕ) (m : Written) : Type 0 where
  pub scratchpad : m.scratchpad ≡ with_digit x r d
  pub changed : m.changed ≡ not (eqb d (digit x r))

-- x with the walk's digits at the levels past c up to r
unfoldable pub written : ℕ → ℕ → ℕ → List ℕ → ℕ
written x c r ps = spell (x / 2 ^ 45) (λ k. cond (ltb c k && leb k r) (walk_digit (at ps k)) (digit x k)) 15

-- a number that has the digits of the levels past c up to r
pub record Levels (c r x : ℕ) (ps : List ℕ) : Type 0 where
  pub deep : r ≤ 15
  pub fine : Fine ps
  pub shown : x ≡ written x c r ps

-- the coarsest level that moves when level r does: those after it ask their parent level, and it does not
pub record Top (c r : ℕ) (ps : List ℕ) (s : ℕ) : Type 0 where
  pub above : c < s
  pub within : s ≤ r
  pub alone : asks_parent c s ps ≡ false
  pub asked : (k : ℕ) → s < k → k ≤ r → asks_parent c k ps ≡ true

-- level r has moved, after its parent level, whose digit changed or not
pub record MovesLevel (r x : ℕ) (b : Bool) (ps qs : List ℕ) (v : Written) : Type 0 where
  pub positions : qs ≡ set ps r (next_position (at ps r) b)
  pub written : DigitSet x r (walk_digit (next_position (at ps r) b)) v

-- the levels are those of m, and the number has their digits
pub record Leaves (c r x : ℕ) (m : Moved) (qs : List ℕ) (v : Written) : Type 0 where
  pub positions : qs ≡ m.positions
  pub changed : v.changed ≡ m.changed
  pub scratchpad : v.scratchpad ≡ written x c r qs

-- The levels over the finest, t, which stands at position f: they have moved where it asks for that.
abbrev pub over_finest : ℕ → ℕ → ℕ → List ℕ → Moved
over_finest c t f ps = cond (ltb (c + 1) t && eqb (f % 3) (t % 2)) (move c (t - 1) ps) (still ps)
