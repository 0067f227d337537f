-- The four ways for a walk to begin: what is left is the outline.
--     start_first, start_sixth     the walks of scope that the starts are
--     rest_at                      what is left of a state made from a walk
--     begins-*                     coarser target, hexagon, pentagon below its resolution, pentagon at it
-- Assumes nothing.
use mathlib.Core.Path.{◌≡◌, refl, ◌∙◌, ap, sym, subst}
use mathlib.Core.Bool.{Bool, true, false, ◌&&◌, cond}
use mathlib.Core.List.{List, ◌∷◌}
use mathlib.Core.Logic.{⊎_elim}
use Prim.Native.Nat.{ℕ, ◌+◌, ◌-◌, ◌*◌, ◌^◌, ◌<◌, ◌≤◌}
use native.Mathlib.Omega.{arith}
use lib.Dec.{leb, ltb, lit<}
use lib.ListN.{set}
use borrow.Author.Tests.{lt-ltb, le-ltb, le-leb, lt-leb}
use Rattle.scope.specs.Lists.{at}
use Rattle.scope.specs.Cells.{resolution_of, is_pentagon}
use Rattle.scope.specs.Walk.{Walk, edge_at, edges, step, first_position, first_walk, outline}
use Rattle.scope.proofs.Tests.{le_or_lt, clash}
use Rattle.scope.proofs.Walks.{step_still}
use Rattle.scope.proofs.WalkStarts.{tabulate_same, first_position_lt}
use Rattle.scope.proofs.WalkCounts.{after, facing, outline_coarser, outline_hexagon, outline_finer, outline_own}
use Rattle.scope.proofs.Sixths.{first_sixth}
use Rattle.scope.proofs.EdgeDigits.{edges_again}
use Rattle.gosper.specs.declared.Gosper.{Gosper}
use Rattle.walk_levels.specs.Starts.{start_position, start_walk, Starts}
use Rattle.gosper.specs.Walking.{walk_of, gosper_at, Walking, rest, begun, Begins}
use Rattle.gosper.proofs.Walkings.{walk_at, walking_at}
use Rattle.walk_levels.proofs.StartLaws.{start_own, start_fine}

-- ---- the walks of scope that the starts are

first_place : (c t r : ℕ) → cond (ltb c r && leb r t) (start_position 0 c r) 0 ≡ cond (leb r t) (first_position c r) 0
first_place c t r =
    ⊎_elim
    (λ (a : r ≤ t).
    ⊎_elim
    (λ (b : r ≤ c). rw (le-leb r t a, le-ltb c r b, le-ltb (c + 1) r (omega arith)))
    (λ (b : c < r).
    let e : start_position 0 c r ≡ first_position c r = omega (arith, first_position_lt c r) in
    rw (le-leb r t a, lt-ltb c r b) e)
    (le_or_lt r c))
    (λ (a : t < r). rw (lt-leb r t a) (go (ltb c r)))
    (le_or_lt r t)
  where
    go : (b : Bool) → cond (b && false) (start_position 0 c r) 0 ≡ 0
    go true = refl
    go false = refl

pub start_first : (c t : ℕ) → start_walk 0 c t ≡ first_walk c t
unfolding start_walk first_walk
start_first c t =
    ap (λ (l : List ℕ). record { positions = l; edge_position = 0 }) (tabulate_same _ _ 0 16 (λ r h. first_place c t r))

pub start_sixth : (c t : ℕ) → c < t → t ≤ 15 → start_walk 1 c t ≡ after c t (3 ^ (t - c)) (first_walk c t)
unfolding start_walk
start_sixth c t h d = sym (first_sixth c t h d)

pub start_facing : (c : ℕ) → start_walk 0 c c ≡ facing 0
unfolding start_walk
start_facing c = ap (λ (l : List ℕ). record { positions = l; edge_position = 0 }) (sym (start_own 0 c))

-- ---- what is left

pub rest_at : (x c t n : ℕ) (w : Walk) → t ≤ 15 → rest (gosper_at x c t false n w) ≡ edges false x c t n w
unfolding rest
rest_at x c t n w deep = ap (edges false (edge_at x c t w) c t n) (walk_at x c t false n w) ∙ edges_again x c t w deep false n w

-- at the cell's resolution the step after the first edge is passed over
two_on : (c : ℕ) → step c c (step c c (facing 0)) ≡ facing 2
two_on c =
    ap (step c c) (step_still c c (facing 0) (let l : c ≤ c = omega arith in l)) ∙ step_still c c (facing 1) (let l : c ≤ c = omega arith in l)

rest_over : (x c n m : ℕ) → c ≤ 15 → n ≡ m + 1 → rest (gosper_at x c c true n (facing 0)) ≡ edge_at x c c (facing 0) ∷ edges false x c c m (facing 2)
unfolding rest
rest_over x c n m deep e =
    let y = edge_at x c c (facing 0) in
    let k : n - 1 ≡ m = omega arith in
    ap (λ (i : ℕ). y ∷ edges false y c c i (step c c (step c c (walk_of (gosper_at x c c true n (facing 0)))))) k
    ∙ ap (λ (w : Walk). y ∷ edges false y c c m (step c c (step c c w))) (walk_at x c c true n (facing 0))
    ∙ ap (λ (w : Walk). y ∷ edges false y c c m w) (two_on c)
    ∙ ap (λ (l : List ℕ). y ∷ l) (edges_again x c c (facing 0) deep false m (facing 2))

begun_walking : (x k c t n : ℕ) (b : Bool) → k < 6 → c ≤ t → t ≤ 15 → (b ≡ true → (c ≡ t) × (0 < n)) → Walking (gosper_at x c t b n (start_walk k c t))
unfolding start_walk
begun_walking x k c t n b f h d s = walking_at x c t b n (start_walk k c t) h d (start_fine k c t) f s

-- ---- the four ways

own_rest : (x : ℕ) → is_pentagon x ≡ true
    → rest (gosper_at x (resolution_of x) (resolution_of x) true (5 * 3 ^ (resolution_of x - resolution_of x)) (start_walk 0 (resolution_of x) (resolution_of x)))
    ≡ outline x (resolution_of x)
own_rest x p =
    let c = resolution_of x in
    let n : 5 * 3 ^ (c - c) ≡ 4 + 1 = ap (λ (i : ℕ). 5 * 3 ^ i) (let z : c - c ≡ 0 = omega arith in z) in
    ap (λ (w : Walk). rest (gosper_at x c c true (5 * 3 ^ (c - c)) w)) (start_facing c)
    ∙ rest_over x c (5 * 3 ^ (c - c)) 4 (omega arith) n ∙ sym (outline_own x p)

module _ (x t : ℕ) (g : Gosper) (deep : t ≤ 15) where
  abbrev c : ℕ
  c = resolution_of x

  -- every field, and what is left
  begins : (h : Gosper) → g ≡ h → h ≡ begun x t → Walking h → rest h ≡ outline x t → Begins x t g
  begins h e f w r = record { fields = e ∙ f; walking = rw e w; rest = ap rest e ∙ r }

  pub begins_none : t < c → g ≡ gosper_at x c c false 0 (start_walk 0 c c) → Begins x t g
  unfolding begun edges
  begins_none l e =
      let d : c ≤ 15 = omega arith in
      begins _ e (rw (lt-leb c t l)) (begun_walking x 0 c c 0 false (lit< tt) (omega arith) d (λ i. absurd (clash i refl)))
      (rest_at x c c 0 (start_walk 0 c c) d ∙ sym (outline_coarser x t l))

  pub begins_hexagon : is_pentagon x ≡ false → c ≤ t → g ≡ gosper_at x c t false (6 * 3 ^ (t - c)) (start_walk 0 c t) → Begins x t g
  unfolding begun
  begins_hexagon p h e =
      begins _ e (rw (le-leb c t h, p)) (begun_walking x 0 c t _ false (lit< tt) h deep (λ i. absurd (clash i refl)))
      (rest_at x c t _ (start_walk 0 c t) deep ∙ ap (edges false x c t (6 * 3 ^ (t - c))) (start_first c t) ∙ sym (outline_hexagon x t p h))

  pub begins_finer : is_pentagon x ≡ true → c < t → g ≡ gosper_at x c t false (5 * 3 ^ (t - c)) (start_walk 1 c t) → Begins x t g
  unfolding begun
  begins_finer p h e =
      let l : c ≤ t = omega arith in
      begins _ e (rw (le-leb c t l, p, lt-ltb c t h)) (begun_walking x 1 c t _ false (lit< tt) l deep (λ i. absurd (clash i refl)))
      (rest_at x c t _ (start_walk 1 c t) deep ∙ ap (edges false x c t (5 * 3 ^ (t - c))) (start_sixth c t h deep) ∙ sym (outline_finer x t p h deep))

  pub begins_own : is_pentagon x ≡ true → c ≡ t → g ≡ gosper_at x c t true (5 * 3 ^ (t - c)) (start_walk 0 c t) → Begins x t g
  unfolding begun
  begins_own p h e =
      let l : c ≤ t = omega arith in
      let n : 5 * 3 ^ (t - c) ≡ 5 = ap (λ (i : ℕ). 5 * 3 ^ i) (let z : t - c ≡ 0 = omega arith in z) in
      begins _ e (rw (le-leb c t l, p, le-ltb c t (omega arith)))
      (begun_walking x 0 c t _ true (lit< tt) l deep (λ i. (h, rw n (lit< tt))))
      (subst (λ (u : ℕ). rest (gosper_at x c u true (5 * 3 ^ (u - c)) (start_walk 0 c u)) ≡ outline x u) h (own_rest x p))

-- ---- the code's ways there

pub starts_at : (x c t k e n : ℕ) (b : Bool) (ps : List ℕ) → Starts ps x c t k e
    → record { scratchpad = e; count = n; positions = set ps t 0; finest = at ps t; facing = k; parent = c; child = t; skips = b }
    ≡ gosper_at x c t b n (start_walk k c t)
unfolding start_walk
starts_at x c t k e n b ps s =
    λ i.
    record {
      scratchpad = s.edge i;
      count = n;
      positions = set (s.positions i) t 0;
      finest = at (s.positions i) t;
      facing = k;
      parent = c;
      child = t;
      skips = b;
    }

-- a start at the cell's resolution, by the names that the code has for it and for the count
pub started : (x k c t n m : ℕ) (b : Bool) (g : Gosper) → c ≡ resolution_of x → n ≡ m * 3 ^ (t - c) → g ≡ gosper_at x c t b n (start_walk k c t)
    → g ≡ gosper_at x (resolution_of x) t b (m * 3 ^ (t - resolution_of x)) (start_walk k (resolution_of x) t)
started x k c t n m b g e f h =
    h ∙ ap (λ (i : ℕ). gosper_at x c t b i (start_walk k c t)) f ∙ ap (λ (i : ℕ). gosper_at x i t b (m * 3 ^ (t - i)) (start_walk k i t)) e

pub started_own : (x c : ℕ) (g : Gosper) → c ≡ resolution_of x → g ≡ gosper_at x c c false 0 (start_walk 0 c c)
    → g ≡ gosper_at x (resolution_of x) (resolution_of x) false 0 (start_walk 0 (resolution_of x) (resolution_of x))
started_own x c g e h = h ∙ ap (λ (i : ℕ). gosper_at x i i false 0 (start_walk 0 i i)) e
