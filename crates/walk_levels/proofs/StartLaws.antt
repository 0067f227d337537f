-- The start of a walk: its positions and edge level by level, and that what is left there is the outline.
--     start_own, start_deeper, edge_deeper    at the cell's resolution, and one level deeper
--     start-first, start_sixth                the walks of scope that it is: the first one, and that after a sixth of its steps
--     three_le, count_le                      3 to the depth, and the count, are small
--     starts_own, starts_deeper               the loop over the levels
-- Assumes nothing.
use mathlib.Core.Path.{◌≡◌, refl, ◌∙◌, ap, sym}
use mathlib.Core.Bool.{true, false, ◌&&◌, cond}
use mathlib.Core.List.{List}
use mathlib.Core.Logic.{⊎_elim}
use Prim.Native.Nat.{ℕ, ◌+◌, ◌-◌, ◌*◌, ◌%◌, ◌^◌, ◌<◌, ◌≤◌}
use native.Mathlib.Nat.{mul-le-mul}
use native.Mathlib.Omega.{arith}
use lib.Dec.{leb, ltb, lit<}
use lib.ListN.{set, replicate}
use borrow.Author.Tests.{lt-ltb, le-ltb, le-leb, lt-leb, leb-true}
use Rattle.scope.specs.Lists.{tabulate, tabulate_from, first_bad, from}
use Rattle.scope.specs.Cells.{resolution_of, valid_cell, weight}
use Rattle.scope.specs.Walk.{walk_digit, walked_digit, edge_direction, edge_at}
use Rattle.scope.proofs.Tests.{le_or_lt}
use Rattle.scope.proofs.Scan.{passes_at}
use Rattle.scope.proofs.Cells.{cell_top}
use Rattle.scope.proofs.Walks.{cond_lt, edge_direction_lt, edge_lt}
use Rattle.scope.proofs.WalkStarts.{tabulate_same, tabulate_set, tabulate_lt, edge_own}
use Rattle.scope.proofs.WalkStarts as WalkStarts
use Rattle.scope.proofs.Odometer.{Fine}
use Rattle.scope.proofs.EdgeDigits.{edge_digit}
use Rattle.walk_levels.specs.declared.Written.{Written}
use Rattle.walk_levels.specs.Levels.{with_digit, DigitSet}
use Rattle.walk_levels.specs.Starts.{start_position, start_walk, Starts}
use Rattle.walk_levels.proofs.OneDigit.{old_le}

-- ---- level by level

abbrev placed : ℕ → ℕ → ℕ → ℕ → ℕ
placed k c t r = cond (ltb c r && leb r t) (start_position k c r) 0

-- past the cell's resolution and up to the target
within : (c t r : ℕ) → c < r → r ≤ t → (ltb c r && leb r t) ≡ true
within c t r a b = rw (lt-ltb c r a, le-leb r t b)

before : (c t r : ℕ) → r ≤ c → (ltb c r && leb r t) ≡ false
before c t r a = rw (le-ltb c r a)

beyond : (c t r : ℕ) → c ≤ t → t < r → (ltb c r && leb r t) ≡ false
beyond c t r h a = rw (lt-ltb c r (omega arith), lt-leb r t a)

pub start_own : (k c : ℕ) → replicate 16 0 ≡ (start_walk k c c).positions
unfolding start_walk tabulate_from
start_own k c =
    tabulate_same (λ r. 0) (placed k c c) 0 16
    (λ r h.
    ⊎_elim (λ (a : r ≤ c). rw (before c c r a)) (λ (a : c < r). rw (beyond c c r (omega arith) a)) (le_or_lt r c))

other_level : (k c t r : ℕ) → c ≤ t → (r ≡ t + 1 → ⊥) → placed k c t r ≡ placed k c (t + 1) r
other_level k c t r h ne =
    ⊎_elim
    (λ (a : r ≤ c). rw (before c t r a, before c (t + 1) r a))
    (λ (a : c < r).
    ⊎_elim
    (λ (b : r ≤ t). rw (within c t r a b, within c (t + 1) r a (omega arith)))
    (λ (b : t < r). rw (beyond c t r h b, beyond c (t + 1) r (omega arith) (omega arith)))
    (le_or_lt r t))
    (le_or_lt r c)

pub start_deeper : (k c t : ℕ) → c ≤ t → t < 15 → set (start_walk k c t).positions (t + 1) (start_position k c (t + 1)) ≡ (start_walk k c (t + 1)).positions
unfolding start_walk
start_deeper k c t h d =
    let a : placed k c (t + 1) (t + 1) ≡ start_position k c (t + 1) = rw (within c (t + 1) (t + 1) (omega arith) (omega arith)) in
    ap (set (tabulate (placed k c t) 16) (t + 1)) (sym a)
    ∙ tabulate_set (placed k c t) (placed k c (t + 1)) 0 16 (t + 1) (t + 1) (omega arith) (omega arith) (λ i ne. other_level k c t i h ne)

pub start_fine : (k c t : ℕ) → Fine (start_walk k c t).positions
unfolding start_walk tabulate_from
start_fine k c t =
    record {
      long = refl;
      round =
          tabulate_lt (placed k c t) 18 (lit< tt)
          (λ r. let l : start_position k c r < 18 = omega arith in cond_lt 18 (ltb c r && leb r t) (start_position k c r) 0 l (lit< tt)) 0 16;
    }

-- the edge there, with the digit of the new level for 7 and the resolution one more
pub edge_deeper : (x k c t : ℕ) → c ≤ t → t < 15
    → with_digit (edge_at x c t (start_walk k c t)) (t + 1) (walk_digit (start_position k c (t + 1))) + 2 ^ 52 ≡ edge_at x c (t + 1) (start_walk k c (t + 1))
unfolding start_walk
edge_deeper x k c t h d =
    let w = start_walk k c t in
    let p = start_position k c (t + 1) in
    let a = WalkStarts.edge_deeper x c t w p h d (start_fine k c t).long in
    let e : edge_at x c (t + 1) (record { positions = set w.positions (t + 1) p; edge_position = k }) ≡ edge_at x c (t + 1) (start_walk k c (t + 1)) =
    ap (λ (l : List ℕ). edge_at x c (t + 1) (record { positions = l; edge_position = k })) (start_deeper k c t h d) in
    let s : walked_digit x c t w (t + 1) ≡ 7 = rw (lt-leb (t + 1) c (omega arith), lt-leb (t + 1) t (omega arith)) in
    let o = ap (λ (y : ℕ). y * weight (t + 1)) (edge_digit x c t w (t + 1) (omega arith) (omega arith) ∙ s) in
    let b = old_le (edge_at x c t w) (3 * (15 - (t + 1))) in
    omega arith

pub edge_start : (x k c : ℕ) → valid_cell x ≡ true → c ≡ resolution_of x → x + (8 + edge_direction k) * 2 ^ 56 ≡ edge_at x c c (start_walk k c c)
unfolding start_walk
edge_start x k c valid e = rw e (sym (edge_own x valid (start_walk k (resolution_of x) (resolution_of x))))

-- ---- the count

pub three_le : (i : ℕ) → i ≤ 15 → 3 ^ i ≤ 14348907
unfolding first_bad from
three_le i h = leb-true _ _ (passes_at (λ k. leb (3 ^ k) 14348907) 16 refl i (omega arith))

pub count_le : (s i : ℕ) → s ≤ 6 → i ≤ 15 → s * 3 ^ i ≤ 6 * 14348907
count_le s i h k = mul-le-mul h (three_le i k)

-- ---- the loop over the levels

module _ (x c k : ℕ) (valid : valid_cell x ≡ true) (own : c ≡ resolution_of x) where
  pub first_fits : (d : ℕ) → d ≡ edge_direction k → x + (8 + d) * 2 ^ 56 < 2 ^ 63
  first_fits d e = let t = cell_top x valid in let l = edge_direction_lt k in omega arith

  pub starts_own : (ps : List ℕ) (d : ℕ) → ps ≡ replicate 16 0 → d ≡ edge_direction k → Starts ps x c c k (x + (8 + d) * 2 ^ 56 % 2 ^ 64)
  starts_own ps d cleared e =
      let l = edge_direction_lt k in
      let m : (8 + d) * 2 ^ 56 % 2 ^ 64 ≡ (8 + edge_direction k) * 2 ^ 56 = omega arith in
      record {
        positions = cleared ∙ start_own k c;
        edge = ap (λ (y : ℕ). x + y) m ∙ edge_start x k c valid own;
      }

module _ (x c k t e p d : ℕ) (ps : List ℕ) (v : Written) (starts : Starts ps x c t k e) (down : c ≤ t) (deep : t < 15)
    (position : p ≡ start_position k c (t + 1)) (shown : d ≡ walk_digit p) (written : DigitSet e (t + 1) d v) where
  deeper_edge : v.scratchpad + 2 ^ 52 ≡ edge_at x c (t + 1) (start_walk k c (t + 1))
  deeper_edge =
      ap (λ (y : ℕ). y + 2 ^ 52) written.scratchpad ∙ rw (starts.edge, shown, position) (edge_deeper x k c t down deep)

  pub starts_deeper : Starts (set ps (t + 1) p) x c (t + 1) k (v.scratchpad + 2 ^ 52)
  starts_deeper = record { positions = rw (starts.positions, position) (start_deeper k c t down deep); edge = deeper_edge }

  pub deeper_fits : v.scratchpad + 2 ^ 52 < 2 ^ 63
  deeper_fits = rw deeper_edge (edge_lt x c (t + 1) (start_walk k c (t + 1)) (omega arith))
