-- How many edges an outline has, for every delta, and where a pentagon's edges lie in the walk.
--     outline_count      6 · 3 ^ delta for a hexagon, 5 · 3 ^ delta for a pentagon
--     outline_coarser    none where the target is coarser
--     outline_hexagon    a hexagon's outline: every step from the first walk on
--     outline_finer      a pentagon's outline below its resolution: every step from the first sixth of the walk on
--     outline_own        a pentagon's outline at its resolution: the second step of six is passed over
-- Assumes nothing.
use mathlib.Core.Path.{◌≡◌, refl, ◌∙◌, ap, sym}
use mathlib.Core.Bool.{Bool, true, false, cond}
use mathlib.Core.List.{[], ◌∷◌}
use mathlib.Core.Logic.{⊎_elim}
use Prim.Native.Nat.{ℕ, zero, suc, ◌+◌, ◌-◌, ◌*◌, ◌^◌, ◌<◌, ◌≤◌}
use native.Mathlib.Nat.{pow-suc, eq-or-lt_of_le}
use native.Mathlib.Omega.{arith}
use lib.ListN.{length, replicate}
use borrow.Author.Tests.{lt-ltb, le-ltb, le-leb, lt-leb}
use Rattle.scope.specs.Cells.{resolution_of, is_pentagon}
use Rattle.scope.specs.Walk.{Walk, move, step, edge_at, passed_over, edges, first_walk, outline}
use Rattle.scope.proofs.WalkStarts.{first_own}
use Rattle.scope.proofs.Odometer.{Fine, first_fine, step_fine, level, value, value_first, value_move, passed_is}

-- the walk after n steps
unfoldable pub after : ℕ → ℕ → ℕ → Walk → Walk
after c t zero w = w
after c t (suc n) w = after c t n (step c t w)

-- ---- below the cell's resolution

step_positions : (c t : ℕ) (w : Walk) → c < t → (step c t w).positions ≡ (move c t w.positions).positions
unfolding step
step_positions c t w h = rw (lt-ltb c t h)

module _ (x c k t : ℕ) (at_level : t ≡ level c k) (deep : t ≤ 15) where
  step_is : (w : Walk) → (step c t w).positions ≡ (move c (level c k) w.positions).positions
  step_is w = step_positions c t w (omega arith) ∙ ap (λ (r : ℕ). (move c r w.positions).positions) at_level

  step_value : (w : Walk) (v : ℕ) → Fine w.positions → value c k w.positions ≡ v → v + 1 < 18 * 3 ^ k → value c k (step c t w).positions ≡ v + 1
  step_value w v f e l =
      ap (value c k) (step_is w) ∙ value_move c k w.positions f (omega arith) (omega arith) ∙ ap (λ (y : ℕ). y + 1) e

  -- past the first sixth no step is passed over
  none_passed : (n v : ℕ) (w : Walk) → Fine w.positions → (0 < n → value c k w.positions ≡ v) → 3 * 3 ^ k ≤ v → v + n ≤ 18 * 3 ^ k
      → edges true x c t n w ≡ edges false x c t n w
  unfolding edges passed_over
  none_passed zero v w f h a l = refl
  none_passed (suc n) v w f h a l =
      let e : value c k w.positions ≡ v = h (omega arith) in
      let r : edges true x c t n (step c t w) ≡ edges false x c t n (step c t w) =
      none_passed n (v + 1) (step c t w) (step_fine c t w f) (λ z. step_value w v f e (omega arith)) (omega arith) (omega arith) in
      let b : 3 * 3 ^ k ≤ value c k w.positions = omega arith in
      let p : passed_over true c t w ≡ false = passed_is c k t w at_level f ∙ le-ltb _ _ b in
      rw (p, r)

  -- the first sixth is passed over
  all_passed : (m n v : ℕ) (w : Walk) → Fine w.positions → value c k w.positions ≡ v → v + m ≡ 3 * 3 ^ k → v + m + n ≤ 18 * 3 ^ k
      → edges true x c t (m + n) w ≡ edges false x c t n (after c t m w)
  unfolding edges after
  all_passed zero n v w f e a l = ap (λ (i : ℕ). edges true x c t i w) (let z : 0 + n ≡ n = omega arith in z) ∙ none_passed n v w f (λ z. e) (omega arith) (omega arith)
  all_passed (suc m) n v w f e a l =
      let z : suc m + n ≡ suc (m + n) = omega arith in
      let b : value c k w.positions < 3 * 3 ^ k = omega arith in
      let p : passed_over true c t w ≡ true = passed_is c k t w at_level f ∙ lt-ltb _ _ b in
      rw (z, p) (all_passed m n (v + 1) (step c t w) (step_fine c t w f) (step_value w v f e (omega arith)) (omega arith) (omega arith))

pub third : (c t : ℕ) → c < t → 3 ^ (t - c) ≡ 3 * 3 ^ (t - c - 1)
third c t h = ap (λ (n : ℕ). 3 ^ n) (let e : t - c ≡ suc (t - c - 1) = omega arith in e) ∙ omega (arith, pow-suc 3 (t - c - 1))

pub outline_finer : (x t : ℕ) → is_pentagon x ≡ true → resolution_of x < t → t ≤ 15
    → outline x t ≡ edges false x (resolution_of x) t (5 * 3 ^ (t - resolution_of x)) (after (resolution_of x) t (3 ^ (t - resolution_of x)) (first_walk (resolution_of x) t))
unfolding outline
outline_finer x t p h d =
    let c = resolution_of x in
    let k = t - c - 1 in
    let s : 6 * 3 ^ (t - c) ≡ 3 ^ (t - c) + 5 * 3 ^ (t - c) = omega arith in
    rw (le-leb c t (omega arith), p, s)
    (all_passed x c k t (omega arith) d (3 ^ (t - c)) (5 * 3 ^ (t - c)) 0 (first_walk c t) (first_fine c t) (value_first c k t (omega arith) d)
    (omega (arith, third c t h)) (omega (arith, third c t h)))

-- ---- at the cell's own resolution

-- the walk there, at an edge position
abbrev pub facing : ℕ → Walk
facing e = record { positions = replicate 16 0; edge_position = e }

-- of a pentagon's six steps the second is passed over
own_edges : (x c : ℕ) → edges true x c c 6 (facing 0) ≡ edge_at x c c (facing 0) ∷ edges false x c c 4 (facing 2)
unfolding edges passed_over step
own_edges x c = rw (le-ltb c c (omega arith))

pub outline_own : (x : ℕ) → is_pentagon x ≡ true
    → outline x (resolution_of x)
    ≡ edge_at x (resolution_of x) (resolution_of x) (facing 0) ∷ edges false x (resolution_of x) (resolution_of x) 4 (facing 2)
unfolding outline
outline_own x p =
    let c = resolution_of x in
    let s : 6 * 3 ^ (c - c) ≡ 6 = ap (λ (n : ℕ). 6 * 3 ^ n) (let e : c - c ≡ 0 = omega arith in e) in
    rw (le-leb c c (omega arith), p, s, ← first_own c) (own_edges x c)

pub outline_hexagon : (x t : ℕ) → is_pentagon x ≡ false → resolution_of x ≤ t
    → outline x t ≡ edges false x (resolution_of x) t (6 * 3 ^ (t - resolution_of x)) (first_walk (resolution_of x) t)
unfolding outline
outline_hexagon x t p h = rw (le-leb (resolution_of x) t h, p)

pub outline_coarser : (x t : ℕ) → t < resolution_of x → outline x t ≡ []
unfolding outline
outline_coarser x t h = rw (lt-leb (resolution_of x) t h)

-- ---- the counts

-- where no step is passed over, each gives an edge
pub edges_count : (x c t n : ℕ) (w : Walk) → length (edges false x c t n w) ≡ n
unfolding edges passed_over
edges_count x c t zero w = refl
edges_count x c t (suc n) w = ap suc (edges_count x c t n (step c t w))

abbrev pub sides : ℕ → ℕ
sides x = cond (is_pentagon x) 5 6

pub outline_count : (x t : ℕ) → resolution_of x ≤ t → t ≤ 15 → length (outline x t) ≡ sides x * 3 ^ (t - resolution_of x)
outline_count x t h d = go (is_pentagon x) refl
  where
    go : (b : Bool) → is_pentagon x ≡ b → length (outline x t) ≡ sides x * 3 ^ (t - resolution_of x)
    go false p = ap length (outline_hexagon x t p h) ∙ edges_count _ _ _ _ _ ∙ rw p
    go true p =
        ⊎_elim
        (λ (e : resolution_of x ≡ t).
        let z : t - resolution_of x ≡ 0 = omega arith in
        ap (λ (u : ℕ). length (outline x u)) (sym e) ∙ ap length (outline_own x p)
        ∙ ap (λ (n : ℕ). suc n) (edges_count x (resolution_of x) (resolution_of x) 4 (facing 2)) ∙ rw (p, z))
        (λ (l : resolution_of x < t). ap length (outline_finer x t p l d) ∙ edges_count _ _ _ _ _ ∙ rw p)
        (eq-or-lt_of_le h)
