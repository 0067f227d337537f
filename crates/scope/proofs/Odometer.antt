-- The walk is an odometer: the positions modulo 3 are the digits, of base 3, of how many steps were made.
--     Fine                   sixteen positions, each below 18; every move keeps that
--     level, phase, value    the k-th level below the cell's first child level, its digit, the number that the levels up to it show
--     value_move             a move adds one
--     value_first            the first walk shows 0
--     one_first              the walk's digit is 1 at the first three positions
--     passed_is              so a pentagon passes over the steps whose number is below 3 · 3 ^ k
-- Assumes nothing.
use mathlib.Core.Path.{◌≡◌, refl, ◌∙◌, ap, sym}
use mathlib.Core.Bool.{Bool, true, false, cond, beq}
use mathlib.Core.List.{List, [], ◌∷◌}
use mathlib.Core.Logic.{◌⊎◌, inl, inr, ⊎_elim}
use Prim.Native.Nat.{ℕ, zero, suc, ◌+◌, ◌-◌, ◌*◌, ◌%◌, ◌^◌, ◌<◌, ◌≤◌}
use native.Mathlib.Nat.{pow-suc, mul_assoc, mul-le-mul_right, le_trans, lt_of_lt_of_le}
use native.Mathlib.Omega.{arith}
use lib.Dec.{eqb, ltb}
use lib.ListN.{length, set, length-set}
use lib.Seq.{get_or-set_same, get_or-set_other}
use borrow.Author.Tests.{eqb-true, eqb-false, lt-ltb, le-ltb}
use Rattle.scope.specs.Lists.{at}
use Rattle.scope.specs.Walk.{Walk, Moved, still, level_step, asks_parent, next_position, move, step, passed_over, first_position, first_walk, walk_digits, walk_digit}
use Rattle.scope.proofs.Tests.{le_or_lt}
use Rattle.scope.proofs.Entries.{every, entry, beq_eq}
use Rattle.scope.proofs.Walks.{settled, settled_yes, settled_no, move_is, asks_first}
use Rattle.scope.proofs.WalkStarts.{first_at, first_lt, first_long}

-- ---- what a move keeps: the length, positions below 18, and the levels after it

pub record Fine (ps : List ℕ) : Type 0 where
  pub long : length ps ≡ 16
  pub round : (k : ℕ) → at ps k < 18

pub set_lt : (m q : ℕ) → q < m → (l : List ℕ) → ((k : ℕ) → at l k < m) → (r k : ℕ) → at (set l r q) k < m
set_lt m q h [] e r k = e k
set_lt m q h (y ∷ ys) e zero zero = h
set_lt m q h (y ∷ ys) e zero (suc k) = e (suc k)
set_lt m q h (y ∷ ys) e (suc r) zero = e zero
set_lt m q h (y ∷ ys) e (suc r) (suc k) = set_lt m q h ys (λ i. e (suc i)) r k

pub set_fine : (ps : List ℕ) (r q : ℕ) → Fine ps → q < 18 → Fine (set ps r q)
set_fine ps r q f l = record { long = length-set ps r q ∙ f.long; round = set_lt 18 q l ps f.round r }

pub first_fine : (c t : ℕ) → Fine (first_walk c t).positions
first_fine c t = record { long = first_long c t; round = first_lt c t }

cond_fine : (b : Bool) (m n : Moved) → Fine m.positions → Fine n.positions → Fine (cond b m n).positions
cond_fine true m n f g = f
cond_fine false m n f g = g

pub move_fine : (c r : ℕ) (ps : List ℕ) → Fine ps → Fine (move c r ps).positions
unfolding move level_step
move_fine c zero ps f = f
move_fine c (suc r) ps f =
    let m = cond (asks_parent c (suc r) ps) (move c r ps) (still ps) in
    set_fine m.positions (suc r) (next_position (at m.positions (suc r)) m.changed)
    (cond_fine (asks_parent c (suc r) ps) (move c r ps) (still ps) (move_fine c r ps f) f)
    (omega arith)

pub step_fine : (c t : ℕ) (w : Walk) → Fine w.positions → Fine (step c t w).positions
unfolding step
step_fine c t w f = cond_fine (ltb c t) (move c t w.positions) (still w.positions) (move_fine c t w.positions f) f

after_cond : (b : Bool) (m n : Moved) (j p : ℕ) → at m.positions j ≡ p → at n.positions j ≡ p → at (cond b m n).positions j ≡ p
after_cond true m n j p a b = a
after_cond false m n j p a b = b

pub move_after : (c r : ℕ) (ps : List ℕ) (j : ℕ) → r < j → at (move c r ps).positions j ≡ at ps j
unfolding move level_step
move_after c zero ps j h = refl
move_after c (suc r) ps j h =
    let m = cond (asks_parent c (suc r) ps) (move c r ps) (still ps) in
    get_or-set_other m.positions (suc r) j _ 0 (omega arith)
    ∙ after_cond (asks_parent c (suc r) ps) (move c r ps) (still ps) j _ (move_after c r ps j (omega arith)) refl

-- ---- the digits of the step's number

-- how far the level r has come since it last moved its parent level: 2 where it moves it next
abbrev pub phase : ℕ → ℕ → ℕ
phase r p = (p + 2 - r % 2) % 3

pub phase_last : (r p : ℕ) → p % 3 ≡ r % 2 → phase r p ≡ 2
phase_last r p e = omega arith

phase_more : (r p : ℕ) → (p % 3 ≡ r % 2 → ⊥) → phase r p < 2
phase_more r p e = omega arith

pub phase_turn : (r p : ℕ) (b : Bool) → phase r p ≡ 2 → phase r (next_position p b) ≡ 0
phase_turn r p true e = omega arith
phase_turn r p false e = omega arith

pub phase_next : (r p : ℕ) (b : Bool) → phase r p < 2 → phase r (next_position p b) ≡ phase r p + 1
phase_next r p true e = omega arith
phase_next r p false e = omega arith

pub phase_first : (c r : ℕ) → c + 1 < r → phase r (first_position c r) ≡ 0
phase_first c r h = rw (lt-ltb (c + 1) r h) (go (eqb (r % 2) 1) refl)
  where
    go : (b : Bool) → eqb (r % 2) 1 ≡ b → phase r (cond b 14 16) ≡ 0
    go true e = omega (arith, eqb-true (r % 2) 1 e)
    go false e = omega (arith, eqb-false (r % 2) 1 e)

abbrev pub level : ℕ → ℕ → ℕ
level c k = c + k + 1

unfoldable pub value : ℕ → ℕ → List ℕ → ℕ
value c zero ps = at ps (c + 1)
value c (suc k) ps = value c k ps * 3 + phase (level c (suc k)) (at ps (level c (suc k)))

pub value_first : (c k t : ℕ) → level c k ≤ t → t ≤ 15 → value c k (first_walk c t).positions ≡ 0
unfolding value
value_first c zero t h d = first_at c t (c + 1) (omega arith) (omega arith) d ∙ rw (le-ltb (c + 1) (c + 1) (omega arith))
value_first c (suc k) t h d =
    rw (
      value_first c k t (omega arith) d,
      first_at c t (level c (suc k)) (omega arith) h d,
      phase_first c (level c (suc k)) (omega arith),
    )

-- it is that of the positions up to the level
value_same : (c k : ℕ) (ps qs : List ℕ) → ((j : ℕ) → j ≤ level c k → at ps j ≡ at qs j) → value c k ps ≡ value c k qs
unfolding value
value_same c zero ps qs e = e (c + 1) (omega arith)
value_same c (suc k) ps qs e =
    let a : value c k ps ≡ value c k qs = value_same c k ps qs (λ j h. e j (omega arith)) in
    rw (a, e (level c (suc k)) (omega arith))

-- a level with its parent level settled: its own digit goes on
value_level : (c k : ℕ) (m : Moved) (p : ℕ) → Fine m.positions → level c (suc k) ≤ 15 → at m.positions (level c (suc k)) ≡ p
    → value c (suc k) (level_step (level c (suc k)) m).positions ≡ value c k m.positions * 3 + phase (level c (suc k)) (next_position p m.changed)
unfolding value level_step
value_level c k m p f h e =
    let r = level c (suc k) in
    let q = next_position (at m.positions r) m.changed in
    let s : value c k (set m.positions r q) ≡ value c k m.positions =
    value_same c k (set m.positions r q) m.positions (λ j l. get_or-set_other m.positions r j q 0 (omega arith)) in
    rw (s, get_or-set_same m.positions r q 0 (omega (arith, f.long)), e)

asks_or : (c r : ℕ) (ps : List ℕ) → c + 1 < r → ((asks_parent c r ps ≡ true) × (at ps r % 3 ≡ r % 2)) ⊎ ((asks_parent c r ps ≡ false) × (at ps r % 3 ≡ r % 2 → ⊥))
asks_or c r ps h = go (eqb (at ps r % 3) (r % 2)) refl
  where
    go : (b : Bool) → eqb (at ps r % 3) (r % 2) ≡ b → ((asks_parent c r ps ≡ true) × (at ps r % 3 ≡ r % 2)) ⊎ ((asks_parent c r ps ≡ false) × (at ps r % 3 ≡ r % 2 → ⊥))
    go true e = inl (rw (lt-ltb (c + 1) r h, e), eqb-true _ _ e)
    go false e = inr (rw (lt-ltb (c + 1) r h, e), eqb-false _ _ e)

-- a move adds one, up to the last number
pub value_move : (c k : ℕ) (ps : List ℕ) → Fine ps → level c k ≤ 15 → value c k ps + 1 < 18 * 3 ^ k
    → value c k (move c (level c k) ps).positions ≡ value c k ps + 1
unfolding value level_step
value_move c zero ps f h l =
    let e : level c 0 ≡ c + 1 = omega arith in
    let z : 0 < c + 1 = omega arith in
    let q = next_position (at ps (c + 1)) false in
    let n : q ≡ at ps (c + 1) + 1 = omega arith in
    rw (
      e,
      move_is c (c + 1) ps z,
      settled_no c (c + 1) ps (asks_first c (c + 1) ps (omega arith)),
      get_or-set_same ps (c + 1) q 0 (omega (arith, f.long)),
    )
    n
value_move c (suc k) ps f h l =
    let r = level c (suc k) in
    let p = at ps r in
    let z : 0 < r = omega arith in
    let n : 18 * 3 ^ suc k ≡ 18 * 3 ^ k * 3 = ap (λ (y : ℕ). 18 * y) (pow-suc 3 k) ∙ sym (mul_assoc 18 (3 ^ k) 3) in
    ⊎_elim
    (λ (a : (asks_parent c r ps ≡ true) × (p % 3 ≡ r % 2)).
    let e : r - 1 ≡ level c k = omega arith in
    let m = move c (level c k) ps in
    let s : settled c r ps ≡ m = settled_yes c r ps a.0 ∙ ap (λ (i : ℕ). move c i ps) e in
    let b : phase r p ≡ 2 = phase_last r p a.1 in
    let d : value c k m.positions ≡ value c k ps + 1 = value_move c k ps f (omega arith) (omega arith) in
    rw (move_is c r ps z, s, value_level c k m p (move_fine c (level c k) ps f) h (move_after c (level c k) ps r (omega arith)))
    (omega (arith, phase_turn r p m.changed b)))
    (λ (a : (asks_parent c r ps ≡ false) × (p % 3 ≡ r % 2 → ⊥)).
    let b : phase r p < 2 = phase_more r p a.1 in
    rw (move_is c r ps z, settled_no c r ps a.0, value_level c k (still ps) p f h refl)
    (omega (arith, phase_next r p false b)))
    (asks_or c r ps (omega arith))

-- ---- the first child level's position is the number's head

value_low : (c k : ℕ) (ps : List ℕ) → at ps (c + 1) * 3 ^ k ≤ value c k ps
unfolding value
value_low c zero ps = omega arith
value_low c (suc k) ps =
    let a : at ps (c + 1) * 3 ^ k ≤ value c k ps = value_low c k ps in
    rw (pow-suc 3 k, ← mul_assoc (at ps (c + 1)) (3 ^ k) 3) (omega arith)

value_high : (c k : ℕ) (ps : List ℕ) → value c k ps < (at ps (c + 1) + 1) * 3 ^ k
unfolding value
value_high c zero ps = omega arith
value_high c (suc k) ps =
    let a : value c k ps < (at ps (c + 1) + 1) * 3 ^ k = value_high c k ps in
    rw (pow-suc 3 k, ← mul_assoc (at ps (c + 1) + 1) (3 ^ k) 3) (omega arith)

one_first : (p : ℕ) → p < 18 → eqb (walk_digit p) 1 ≡ ltb p 3
unfolding every
one_first p h = beq_eq _ _ (entry (λ k d. beq (eqb d 1) (ltb k 3)) walk_digits refl p h)

pub passed_is : (c k t : ℕ) (w : Walk) → t ≡ level c k → Fine w.positions → passed_over true c t w ≡ ltb (value c k w.positions) (3 * 3 ^ k)
unfolding passed_over
passed_is c k t w e f =
    let p = at w.positions (c + 1) in
    rw (lt-ltb c t (omega arith), one_first p (f.round (c + 1)))
    (⊎_elim
    (λ (h : 3 ≤ p). le-ltb p 3 h ∙ sym (le-ltb _ _ (le_trans (mul-le-mul_right (3 ^ k) h) (value_low c k w.positions))))
    (λ (h : p < 3).
    let b : p + 1 ≤ 3 = omega arith in
    lt-ltb p 3 h ∙ sym (lt-ltb _ _ (lt_of_lt_of_le (value_high c k w.positions) (mul-le-mul_right (3 ^ k) b))))
    (le_or_lt 3 p))
