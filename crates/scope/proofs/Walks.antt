-- Laws of the walk's definitions: what a position and a level say of the edge, and how a step and the edges unfold.
--     edge_positioned                 one position is another: what changes in the edge
--     edge_lt                         the edge has its bit 63 zero
--     move_is, settled-*, asks-*      a level moves, after its parent level or alone
--     step_moved, step_still          a step below the cell's resolution, and at it
--     edges_give                      one step of the edges, where it is not passed over
-- Assumes nothing.
use mathlib.Core.Path.{◌≡◌, refl, ap, sym}
use mathlib.Core.Bool.{Bool, true, false, cond}
use mathlib.Core.List.{List, ◌∷◌}
use Prim.Native.Nat.{ℕ, zero, suc, ◌+◌, ◌-◌, ◌*◌, ◌%◌, ◌^◌, ◌<◌, ◌≤◌}
use native.Mathlib.Numerals.{sub-one}
use native.Mathlib.Omega.{arith}
use lib.Dec.{leb, lit<}
use lib.ListN.{length, set}
use lib.Seq.{get_or-set_same, get_or-set_other}
use borrow.Author.Tests.{eq-eqb, ne_eqb, lt-ltb, le-ltb, le-leb, lt-leb}
use Rattle.scope.specs.Lists.{at}
use Rattle.scope.specs.Cells.{digit, weight, base_cell}
use Rattle.scope.specs.Walk.{Walk, Moved, walk_digits, walk_digit, edge_directions, edge_direction, still, level_step, asks_parent, move, next_edge_position, step, walked_digit, spell, edge_at, passed_over, edges}
use Rattle.scope.proofs.Spell.{built, spell_put, spell_low, spell_high}
use Rattle.scope.proofs.Entries.{all_below, entry_below}

-- ---- the edge at a walk

pub walk_digit_lt : (p : ℕ) → walk_digit p < 7
unfolding all_below
walk_digit_lt p = entry_below 7 (lit< tt) walk_digits refl p

pub edge_direction_lt : (e : ℕ) → edge_direction e < 7
unfolding all_below
edge_direction_lt e = entry_below 7 (lit< tt) edge_directions refl e

pub cond_lt : (m : ℕ) (b : Bool) (u v : ℕ) → u < m → v < m → cond b u v < m
cond_lt m true u v p q = p
cond_lt m false u v p q = q

pub walked_digit_lt : (x c t : ℕ) (w : Walk) (k : ℕ) → walked_digit x c t w k < 8
walked_digit_lt x c t w k =
    let d : digit x k < 8 = omega arith in
    let v : walk_digit (at w.positions k) < 8 = omega (arith, walk_digit_lt (at w.positions k)) in
    cond_lt 8 (leb k c) _ _ d (cond_lt 8 (leb k t) _ 7 v (lit< tt))

-- the digits of the edge, as one number below 2 ^ 45
abbrev pub digits_at : ℕ → ℕ → ℕ → Walk → ℕ
digits_at x c t w = spell 0 (walked_digit x c t w) 15

pub digits_lt : (x c t : ℕ) (w : Walk) → digits_at x c t w < 2 ^ 45
digits_lt x c t w = spell_low (walked_digit x c t w) (walked_digit_lt x c t w) 15

pub edge_is : (x c t : ℕ) (w : Walk) → edge_at x c t w ≡ built 2 (edge_direction w.edge_position) t (base_cell x) (digits_at x c t w)
unfolding edge_at
edge_is x c t w = spell_high _ (walked_digit x c t w) 15

pub edge_lt : (x c t : ℕ) (w : Walk) → t ≤ 15 → edge_at x c t w < 2 ^ 63
edge_lt x c t w deep = rw (edge_is x c t w) (omega (arith, digits_lt x c t w, edge_direction_lt w.edge_position))

-- the position of one level is another
module _ (x c t : ℕ) (w : Walk) (r q : ℕ) (above : c < r) (within : r ≤ t) (deep : t ≤ 15) (long : length w.positions ≡ 16) where
  abbrev positioned : Walk
  positioned = record { positions = set w.positions r q; edge_position = w.edge_position }

  other : (k : ℕ) → (k ≡ r → ⊥) → walked_digit x c t w k ≡ walked_digit x c t positioned k
  other k ne = rw (get_or-set_other w.positions r k q 0 ne)

  old : walked_digit x c t w r ≡ walk_digit (at w.positions r)
  old = rw (lt-leb r c above, le-leb r t within)

  new : walked_digit x c t positioned r ≡ walk_digit q
  new = rw (lt-leb r c above, le-leb r t within, get_or-set_same w.positions r q 0 (omega arith))

  pub edge_positioned : edge_at x c t w + walk_digit q * weight r
      ≡ edge_at x c t (record { positions = set w.positions r q; edge_position = w.edge_position }) + walk_digit (at w.positions r) * weight r
  unfolding edge_at
  edge_positioned =
      rw (← new, ← old)
      (spell_put _ (walked_digit x c t w) (walked_digit x c t positioned) 15 r (omega arith) (omega arith) other)

-- ---- a level moves

pub asks_yes : (c r : ℕ) (ps : List ℕ) → c + 1 < r → at ps r % 3 ≡ r % 2 → asks_parent c r ps ≡ true
asks_yes c r ps h e = rw (lt-ltb _ _ h, eq-eqb _ _ e)

pub asks_no : (c r : ℕ) (ps : List ℕ) → c + 1 < r → (at ps r % 3 ≡ r % 2 → ⊥) → asks_parent c r ps ≡ false
asks_no c r ps h e = rw (lt-ltb _ _ h, ne_eqb _ _ e)

pub asks_first : (c r : ℕ) (ps : List ℕ) → r ≤ c + 1 → asks_parent c r ps ≡ false
asks_first c r ps h = rw (le-ltb _ _ h)

-- the positions that the level r finds: its parent level has moved, where it asks for that
abbrev pub settled : ℕ → ℕ → List ℕ → Moved
settled c r ps = cond (asks_parent c r ps) (move c (r - 1) ps) (still ps)

pub move_is : (c r : ℕ) (ps : List ℕ) → 0 < r → move c r ps ≡ level_step r (settled c r ps)
unfolding move
move_is c zero ps h = absurd (omega arith)
move_is c (suc n) ps h = ap (λ (k : ℕ). level_step (suc n) (cond (asks_parent c (suc n) ps) (move c k ps) (still ps))) (sym (sub-one (suc n)))

pub settled_yes : (c r : ℕ) (ps : List ℕ) → asks_parent c r ps ≡ true → settled c r ps ≡ move c (r - 1) ps
settled_yes c r ps e = rw e

pub settled_no : (c r : ℕ) (ps : List ℕ) → asks_parent c r ps ≡ false → settled c r ps ≡ still ps
settled_no c r ps e = rw e

-- ---- a step, and the edges

pub step_moved : (c t : ℕ) (w : Walk) (m : Moved) → c < t → m ≡ move c t w.positions
    → step c t w ≡ record { positions = m.positions; edge_position = next_edge_position w.edge_position m.changed }
unfolding step
step_moved c t w m l h = rw (lt-ltb c t l, h)

pub step_still : (c t : ℕ) (w : Walk) → t ≤ c → step c t w ≡ record { positions = w.positions; edge_position = next_edge_position w.edge_position false }
unfolding step
step_still c t w l = rw (le-ltb c t l)

pub edges_give : (p : Bool) (x c t n : ℕ) (w : Walk) → 0 < n → passed_over p c t w ≡ false
    → edges p x c t n w ≡ edge_at x c t w ∷ edges p x c t (n - 1) (step c t w)
unfolding edges
edges_give p x c t zero w h e = absurd (omega arith)
edges_give p x c t (suc n) w h e =
    rw e (ap (λ (k : ℕ). edge_at x c t w ∷ edges p x c t k (step c t w)) (sym (sub-one (suc n))))

-- a hexagon passes over no step
pub passed_none : (p : Bool) (c t : ℕ) (w : Walk) → p ≡ false → passed_over p c t w ≡ false
unfolding passed_over
passed_none p c t w e = rw e
