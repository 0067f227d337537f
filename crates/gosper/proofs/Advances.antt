-- One step of the walk below the cell's resolution: the levels over the finest one, then the finest one.
--     levels_shown     the scratch number has the digits of the levels over the finest one
--     Advanced         what is known once they and the finest one have moved
--     advanced_walking, advanced_is    then the state is in order, and its walk is the step but for the edge position
-- Assumes nothing.
use mathlib.Core.Path.{◌≡◌, refl, ◌∙◌, ap, sym}
use mathlib.Core.Bool.{Bool, true, false, ◌&&◌, not, cond}
use mathlib.Core.List.{List}
use mathlib.Core.Logic.{⊎_elim}
use Prim.Native.Nat.{ℕ, ◌+◌, ◌-◌, ◌*◌, ◌/◌, ◌%◌, ◌^◌, ◌<◌, ◌≤◌}
use native.Mathlib.Nat.{eq-or-lt_of_le}
use native.Mathlib.Omega.{arith}
use lib.Dec.{eqb, ltb}
use lib.ListN.{length, set, length-set}
use lib.Seq.{get_or-set_same, get_or-set_other, set-set}
use borrow.Author.Tests.{lt-ltb, le-ltb, le-leb, lt-leb}
use Rattle.scope.specs.Lists.{at}
use Rattle.scope.specs.Cells.{digit, weight}
use Rattle.scope.specs.Walk.{Walk, walk_digit, next_position, still, level_step, move, step, walked_digit, spell, edge_at}
use Rattle.scope.proofs.Tests.{le_or_lt}
use Rattle.scope.proofs.Spell.{spell_same}
use Rattle.scope.proofs.Walks.{edge_positioned, settled, move_is, step_moved}
use Rattle.scope.proofs.Odometer.{Fine, move_fine, move_after}
use Rattle.scope.proofs.LevelRuns.{move_other}
use Rattle.scope.proofs.EdgeDigits.{edge_head, edge_digit, edge_again}
use Rattle.gosper.specs.declared.Gosper.{Gosper}
use Rattle.walk_levels.specs.declared.Written.{Written}
use Rattle.walk_levels.specs.Levels.{with_digit, written, DigitSet, Levels, Leaves, over_finest}
use Rattle.gosper.specs.Walking.{walk_of, turned, gosper_at, Walking}
use Rattle.walk_levels.proofs.OneDigit.{old_le}
use Rattle.walk_levels.proofs.LevelLaws.{written_digit}
use Rattle.gosper.proofs.Walkings.{at_again}

-- a digit of an edge is written where a position is set
pub edge_with : (x c t : ℕ) (w : Walk) (r q : ℕ) → c < r → r ≤ t → t ≤ 15 → length w.positions ≡ 16
    → with_digit (edge_at x c t w) r (walk_digit q) ≡ edge_at x c t (record { positions = set w.positions r q; edge_position = w.edge_position })
edge_with x c t w r q above within deep long =
    let a = edge_positioned x c t w r q above within deep long in
    let b = old_le (edge_at x c t w) (3 * (15 - r)) in
    let d : walked_digit x c t w r ≡ walk_digit (at w.positions r) = rw (lt-leb r c above, le-leb r t within) in
    let o = ap (λ (y : ℕ). y * weight r) (edge_digit x c t w r (omega arith) (omega arith) ∙ d) in
    omega arith

-- ---- the levels over the finest one

over_fine : (c t f : ℕ) (ps : List ℕ) → Fine ps → Fine (over_finest c t f ps).positions
over_fine c t f ps fine = go (ltb (c + 1) t && eqb (f % 3) (t % 2))
  where
    go : (b : Bool) → Fine (cond b (move c (t - 1) ps) (still ps)).positions
    go true = move_fine c (t - 1) ps fine
    go false = fine

over_apart : (c t f : ℕ) (ps : List ℕ) → 0 < t → at (over_finest c t f ps).positions t ≡ at ps t
over_apart c t f ps z = go (ltb (c + 1) t && eqb (f % 3) (t % 2))
  where
    go : (b : Bool) → at (cond b (move c (t - 1) ps) (still ps)).positions t ≡ at ps t
    go true = move_after c (t - 1) ps t (omega arith)
    go false = refl

-- with the finest one's position beside them, they are what it finds
over_settled : (c t f : ℕ) (ps : List ℕ) → 0 < t → t < length ps
    → settled c t (set ps t f) ≡ record { positions = set (over_finest c t f ps).positions t f; changed = (over_finest c t f ps).changed }
over_settled c t f ps z l =
    rw (get_or-set_same ps t f 0 l) (go (ltb (c + 1) t && eqb (f % 3) (t % 2)))
  where
    go : (b : Bool) → cond b (move c (t - 1) (set ps t f)) (still (set ps t f))
        ≡ record { positions = set (cond b (move c (t - 1) ps) (still ps)).positions t f; changed = (cond b (move c (t - 1) ps) (still ps)).changed }
    go true = move_other c (t - 1) t f ps (omega arith)
    go false = refl

-- ---- one step

-- the levels over the finest one have moved to qs, the finest one to q, and m is what writing its digit gave
pub record Advanced (g : Gosper) (qs : List ℕ) (v : Written) (q d : ℕ) (m : Written) : Type 0 where
  pub over : Leaves g.parent (g.child - 1) g.scratchpad (over_finest g.parent g.child g.finest g.positions) qs v
  pub position : q ≡ next_position g.finest v.changed
  pub shown : d ≡ walk_digit q
  pub digit : DigitSet v.scratchpad g.child d m

abbrev pub advanced : Gosper → List ℕ → ℕ → ℕ → Gosper
advanced g qs q s =
    record {
      scratchpad = s;
      count = g.count;
      positions = qs;
      finest = q;
      facing = g.facing;
      parent = g.parent;
      child = g.child;
      skips = g.skips;
    }

module _ (g : Gosper) (walking : Walking g) (finer : g.parent < g.child) where
  abbrev x : ℕ
  x = g.scratchpad

  abbrev c : ℕ
  c = g.parent

  abbrev t : ℕ
  t = g.child

  -- the walk at other positions of the levels over the finest one
  abbrev over : List ℕ → Walk
  over qs = record { positions = set qs t g.finest; edge_position = g.facing }

  own_digit : (k : ℕ) → 0 < k → k ≤ 15 → digit x k ≡ walked_digit x c t (walk_of g) k
  own_digit k p q = ap (λ (y : ℕ). digit y k) walking.scratchpad ∙ edge_digit x c t (walk_of g) k p q

  finest_walked : (qs : List ℕ) → Fine qs → walked_digit x c t (over qs) t ≡ walk_digit g.finest
  finest_walked qs fine =
      rw (lt-leb t c finer, le-leb t t (omega arith), get_or-set_same qs t g.finest 0 (omega (arith, fine.long, walking.deep)))

  finest_digit : digit x t ≡ walk_digit g.finest
  finest_digit =
      own_digit t (omega arith) walking.deep ∙ finest_walked g.positions walking.fine

  same_digits : (qs : List ℕ) → Fine qs → (k : ℕ) → 0 < k → k ≤ 15 → written_digit x c (t - 1) qs k ≡ walked_digit x c t (over qs) k
  same_digits qs fine k p q =
      ⊎_elim
      (λ (a : k ≤ c). rw (le-ltb c k a, le-leb k c a))
      (λ (a : c < k).
      ⊎_elim
      (λ (b : k ≤ t - 1).
      rw (lt-ltb c k a, le-leb k (t - 1) b, lt-leb k c a, le-leb k t (omega arith), get_or-set_other qs t k g.finest 0 (omega arith)))
      (λ (b : t - 1 < k).
      ⊎_elim
      (λ (e : t ≡ k). rw (← e, lt-ltb c t finer, lt-leb t (t - 1) (omega arith)) (finest_digit ∙ sym (finest_walked qs fine)))
      (λ (l : t < k).
      rw (lt-ltb c k a, lt-leb k (t - 1) b, lt-leb k c a, lt-leb k t l) (own_digit k p q ∙ rw (lt-leb k c a, lt-leb k t l)))
      (eq-or-lt_of_le (let h : t ≤ k = omega arith in h)))
      (le_or_lt k (t - 1)))
      (le_or_lt k c)

  -- the number with their digits is the edge there
  written_edge : (qs : List ℕ) → Fine qs → written x c (t - 1) qs ≡ edge_at x c t (over qs)
  unfolding written edge_at
  written_edge qs fine =
      let h = ap (λ (y : ℕ). y / 2 ^ 45) walking.scratchpad ∙ edge_head x c t (walk_of g) in
      ap (λ (y : ℕ). spell y (written_digit x c (t - 1) qs) 15) h
      ∙ spell_same _ (written_digit x c (t - 1) qs) (walked_digit x c t (over qs)) 15 (same_digits qs fine)

  pub levels_shown : Levels c (t - 1) x g.positions
  levels_shown =
      let d = walking.deep in
      record { deep = omega arith; fine = walking.fine; shown = walking.scratchpad ∙ sym (written_edge g.positions walking.fine) }

  -- what the finest one does on what it finds
  level_found : (qs : List ℕ) → Fine qs → (b : Bool)
      → level_step t (record { positions = set qs t g.finest; changed = b })
      ≡ record { positions = set qs t (next_position g.finest b); changed = not (eqb (walk_digit (next_position g.finest b)) (walk_digit g.finest)) }
  unfolding level_step
  level_found qs fine b =
      rw (
        get_or-set_same qs t g.finest 0 (omega (arith, fine.long, walking.deep)),
        set-set qs t g.finest (next_position g.finest b),
      )

  module _ (qs : List ℕ) (v : Written) (q d : ℕ) (m : Written) (a : Advanced g qs v q d m) where
    abbrev later : Gosper
    later = advanced g qs q m.scratchpad

    fine : Fine qs
    fine = rw a.over.positions (over_fine c t g.finest g.positions walking.fine)

    before : v.scratchpad ≡ edge_at x c t (over qs)
    before = a.over.scratchpad ∙ written_edge qs fine

    number : m.scratchpad ≡ edge_at x c t (walk_of later)
    number =
        let l : length (set qs t g.finest) ≡ 16 = length-set qs t g.finest ∙ fine.long in
        a.digit.scratchpad ∙ rw (before, a.shown) (edge_with x c t (over qs) t q finer (omega arith) walking.deep l)
        ∙ ap (λ (ps : List ℕ). edge_at x c t (record { positions = ps; edge_position = g.facing })) (set-set qs t g.finest q)

    pub advanced_walking : Walking later
    advanced_walking =
        let z : 0 < t = omega arith in
        record {
          down = walking.down;
          deep = walking.deep;
          fine = fine;
          apart = rw a.over.positions (over_apart c t g.finest g.positions z ∙ walking.apart);
          finest = rw a.position (let l : next_position g.finest v.changed < 18 = omega arith in l);
          facing = walking.facing;
          scratchpad =
              number ∙ sym (edge_again x c t (walk_of later) walking.deep (walk_of later))
              ∙ ap (λ (y : ℕ). edge_at y c t (walk_of later)) (sym number);
          skips = walking.skips;
        }

    changes : m.changed ≡ not (eqb (walk_digit (next_position g.finest v.changed)) (walk_digit g.finest))
    changes =
        let old = ap (λ (y : ℕ). digit y t) before ∙ edge_digit x c t (over qs) t (omega arith) walking.deep ∙ finest_walked qs fine in
        a.digit.changed ∙ rw (old, a.shown, a.position)

    moved : record { positions = set qs t q; changed = m.changed } ≡ move c t (walk_of g).positions
    moved =
        let z : 0 < t = omega arith in
        let l : t < length g.positions = omega (arith, walking.fine.long, walking.deep) in
        rw (a.position, changes)
        (sym (level_found qs fine v.changed) ∙ rw (a.over.positions, a.over.changed)
        (ap (level_step t) (sym (over_settled c t g.finest g.positions z l)) ∙ sym (move_is c t (walk_of g).positions z)))

    pub advanced_is : gosper_at m.scratchpad c t g.skips g.count (turned (walk_of later) m.changed)
        ≡ gosper_at x c t g.skips g.count (step c t (walk_of g))
    advanced_is =
        let w = turned (walk_of later) m.changed in
        ap (λ (y : ℕ). gosper_at y c t g.skips g.count w) number
        ∙ at_again x c t g.skips g.count (walk_of later) walking.deep w
        ∙ ap (gosper_at x c t g.skips g.count) (sym (step_moved c t (walk_of g) (record { positions = set qs t q; changed = m.changed }) finer moved))
