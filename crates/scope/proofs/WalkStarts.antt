-- The first walk of an outline: at the cell's own resolution, and at each level.
--     first_own                  the positions at the cell's resolution
--     first_at                   the position at a level
--     edge_own, edge_deeper      the edge there
--     tabulate_at, tabulate-*    laws of `tabulate_from`
-- Assumes nothing.
use mathlib.Core.Path.{◌≡◌, refl, ◌∙◌, ap, sym}
use mathlib.Core.Bool.{true, cond}
use mathlib.Core.List.{List}
use mathlib.Core.Logic.{⊎_elim}
use Prim.Native.Nat.{ℕ, zero, suc, ◌+◌, ◌*◌, ◌/◌, ◌%◌, ◌^◌, ◌<◌, ◌≤◌}
use native.Mathlib.Omega.{arith}
use lib.Dec.{leb, ltb, eqb, lit<}
use lib.ListN.{length, set, replicate}
use lib.Seq.{get_or-set_same, get_or-set_other}
use borrow.Author.Tests.{le-leb, lt-leb, le-ltb}
use Rattle.scope.specs.Lists.{at, tabulate_from}
use Rattle.scope.specs.Cells.{digit, weight, base_cell, resolution_of, valid_cell}
use Rattle.scope.specs.Walk.{Walk, walk_digit, edge_direction, walked_digit, spell, edge_at, first_position, first_walk}
use Rattle.scope.proofs.Spell.{spell_put, spell_same, spell_high, spell_own}
use Rattle.scope.proofs.Tests.{le_or_lt}
use Rattle.scope.proofs.Cells.{cell_after}
use Rattle.scope.proofs.ValidCells.{cell_head}
use Rattle.scope.proofs.Walks.{cond_lt, edge_is}

-- ---- lists by a function

pub tabulate_at : (f : ℕ → ℕ) (r n j i : ℕ) → i ≡ r + j → j < n → at (tabulate_from f r n) j ≡ f i
unfolding tabulate_from
tabulate_at f r zero j i e h = absurd (omega arith)
tabulate_at f r (suc n) zero i e h = ap f (let a : r ≡ i = omega arith in a)
tabulate_at f r (suc n) (suc j) i e h = tabulate_at f (suc r) n j i (omega arith) (omega arith)

pub tabulate_lt : (f : ℕ → ℕ) (m : ℕ) → 0 < m → ((i : ℕ) → f i < m) → (r n k : ℕ) → at (tabulate_from f r n) k < m
unfolding tabulate_from
tabulate_lt f m z h r zero k = z
tabulate_lt f m z h r (suc n) zero = h r
tabulate_lt f m z h r (suc n) (suc k) = tabulate_lt f m z h (suc r) n k

pub tabulate_same : (f g : ℕ → ℕ) (r n : ℕ) → ((i : ℕ) → r ≤ i → f i ≡ g i) → tabulate_from f r n ≡ tabulate_from g r n
unfolding tabulate_from
tabulate_same f g r zero e = refl
tabulate_same f g r (suc n) e = rw (e r (omega arith), tabulate_same f g (suc r) n (λ i h. e i (omega arith)))

pub tabulate_set : (f g : ℕ → ℕ) (r n k j : ℕ) → j ≡ r + k → k < n → ((i : ℕ) → (i ≡ j → ⊥) → f i ≡ g i)
    → set (tabulate_from f r n) k (g j) ≡ tabulate_from g r n
unfolding tabulate_from
tabulate_set f g r zero k j a h e = absurd (omega arith)
tabulate_set f g r (suc n) zero j a h e =
    let b : j ≡ r = omega arith in
    rw (b, tabulate_same f g (suc r) n (λ i l. e i (omega arith)))
tabulate_set f g r (suc n) (suc k) j a h e =
    rw (e r (omega arith), tabulate_set f g (suc r) n k j (omega arith) (omega arith) e)

-- ---- the first positions

level_other : (k t : ℕ) → (k ≡ t + 1 → ⊥) → leb k (t + 1) ≡ leb k t
level_other k t ne =
    ⊎_elim
    (λ (h : k ≤ t). let g : k ≤ t + 1 = omega arith in le-leb k (t + 1) g ∙ sym (le-leb k t h))
    (λ (h : t < k). let g : t + 1 < k = omega arith in lt-leb k (t + 1) g ∙ sym (lt-leb k t h))
    (le_or_lt k t)

pub first_position_lt : (c r : ℕ) → first_position c r < 18
first_position_lt c r =
    cond_lt 18 (ltb (c + 1) r) (cond (eqb (r % 2) 1) 14 16) 0 (cond_lt 18 (eqb (r % 2) 1) 14 16 (lit< tt) (lit< tt)) (lit< tt)

pub first_at : (c t r : ℕ) → c + 1 ≤ r → r ≤ t → t ≤ 15 → at (first_walk c t).positions r ≡ first_position c r
unfolding first_walk
first_at c t r h l d =
    tabulate_at (λ i. cond (leb i t) (first_position c i) 0) 0 16 r r (omega arith) (omega arith) ∙ rw (le-leb r t l)

pub first_lt : (c t k : ℕ) → at (first_walk c t).positions k < 18
unfolding first_walk
first_lt c t k =
    tabulate_lt (λ i. cond (leb i t) (first_position c i) 0) 18 (omega arith)
    (λ i. cond_lt 18 (leb i t) (first_position c i) 0 (first_position_lt c i) (lit< tt)) 0 16 k

pub first_long : (c t : ℕ) → length (first_walk c t).positions ≡ 16
unfolding first_walk tabulate_from
first_long c t = refl

-- at the cell's own resolution every position is 0
pub first_own : (c : ℕ) → record { positions = replicate 16 0; edge_position = 0 } ≡ first_walk c c
unfolding first_walk tabulate_from
first_own c =
    ap (λ (l : List ℕ). record { positions = l; edge_position = 0 })
    (sym
    (tabulate_same (λ r. cond (leb r c) (first_position c r) 0) (λ r. 0) 0 16
    (λ i h.
    ⊎_elim (λ (a : i ≤ c). rw (le-leb i c a, le-ltb (c + 1) i (omega arith))) (λ (a : c < i). rw (lt-leb i c a)) (le_or_lt i c))))

-- ---- the edge there

pub own_digit : (x : ℕ) → valid_cell x ≡ true → (w : Walk) (k : ℕ) → 0 < k → k ≤ 15 → walked_digit x (resolution_of x) (resolution_of x) w k ≡ digit x k
own_digit x valid w k p q =
    let c = resolution_of x in
    ⊎_elim (λ (h : k ≤ c). rw (le-leb k c h)) (λ (h : c < k). rw (lt-leb k c h) (sym (cell_after x valid k h q))) (le_or_lt k c)

-- at the cell's own resolution the edge is the cell with mode 2 and an edge number
pub edge_own : (x : ℕ) → valid_cell x ≡ true → (w : Walk)
    → edge_at x (resolution_of x) (resolution_of x) w ≡ x + (8 + edge_direction w.edge_position) * 2 ^ 56
edge_own x valid w =
    let c = resolution_of x in
    let a : x ≡ x / 2 ^ 45 * 2 ^ 45 + spell 0 (digit x) 15 = sym (spell_own x) ∙ spell_high (x / 2 ^ 45) (digit x) 15 in
    let p : x / 2 ^ 45 ≡ (8 * 16 + c) * 128 + base_cell x = cell_head x valid in
    rw (edge_is x c c w, spell_same 0 (walked_digit x c c w) (digit x) 15 (own_digit x valid w)) (omega arith)

-- one level deeper, the digit there is the walk's for 7
module _ (x c t : ℕ) (w : Walk) (p : ℕ) (down : c ≤ t) (deep : t < 15) (long : length w.positions ≡ 16) where
  abbrev deeper : Walk
  deeper = record { positions = set w.positions (t + 1) p; edge_position = w.edge_position }

  other : (k : ℕ) → (k ≡ t + 1 → ⊥) → walked_digit x c t w k ≡ walked_digit x c (t + 1) deeper k
  other k ne = rw (level_other k t ne, get_or-set_other w.positions (t + 1) k p 0 ne)

  old : walked_digit x c t w (t + 1) ≡ 7
  old = rw (lt-leb (t + 1) c (omega arith), lt-leb (t + 1) t (omega arith))

  new : walked_digit x c (t + 1) deeper (t + 1) ≡ walk_digit p
  new = rw (lt-leb (t + 1) c (omega arith), le-leb (t + 1) (t + 1) (omega arith), get_or-set_same w.positions (t + 1) p 0 (omega arith))

  pub edge_deeper : edge_at x c t w + walk_digit p * weight (t + 1) + 2 ^ 52
      ≡ edge_at x c (t + 1) (record { positions = set w.positions (t + 1) p; edge_position = w.edge_position }) + 7 * weight (t + 1)
  edge_deeper =
      let a = spell_put 0 (walked_digit x c t w) (walked_digit x c (t + 1) deeper) 15 (t + 1) (omega arith) (omega arith) other in
      let o = ap (λ (d : ℕ). d * weight (t + 1)) old in
      let n = ap (λ (d : ℕ). d * weight (t + 1)) new in
      rw (edge_is x c t w, edge_is x c (t + 1) deeper) (omega arith)
