-- Laws of the levels of a walk and of the number that has their digits.
--     written_at, written_put, written-same    the digits that are written, one of them replaced, or written again
--     Run                                      the levels up to r have moved
--     run_top, run_next, run_last              before the first of them, one more, and all
--     over-*                                   the levels over the finest one
-- Assumes nothing.
use mathlib.Core.Path.{◌≡◌, ◌∙◌, ap, sym, subst}
use mathlib.Core.Bool.{Bool, true, false, ◌&&◌, cond}
use mathlib.Core.List.{List}
use mathlib.Core.Logic.{⊎_elim}
use Prim.Native.Nat.{ℕ, ◌+◌, ◌-◌, ◌*◌, ◌/◌, ◌%◌, ◌^◌, ◌<◌, ◌≤◌}
use native.Mathlib.Nat.{eq-or-lt_of_le}
use native.Mathlib.Omega.{arith}
use lib.Dec.{eqb, leb, ltb}
use lib.ListN.{length, set}
use lib.Seq.{get_or-set_same, get_or-set_other}
use borrow.Author.Tests.{lt-ltb, le-ltb, le-leb, lt-leb}
use Rattle.scope.specs.Lists.{at}
use Rattle.scope.specs.Cells.{digit, weight}
use Rattle.scope.specs.Walk.{Moved, walk_digit, next_position, still, level_step, asks_parent, move, spell}
use Rattle.scope.proofs.Spell.{spell_read, spell_put}
use Rattle.scope.proofs.Walks.{walk_digit_lt, cond_lt, settled, settled_yes, settled_no, move_is}
use Rattle.scope.proofs.Odometer.{Fine, set_fine}
use Rattle.walk_levels.specs.declared.Written.{Written}
use Rattle.walk_levels.specs.Levels.{with_digit, written, Top, MovesLevel, Leaves, over_finest}
use Rattle.walk_levels.proofs.OneDigit.{old_le}

-- what holds above r, and at r, holds above r - 1
pub down_one : (P : ℕ → Type 0) (t r : ℕ) → 0 < r → ((k : ℕ) → r < k → k ≤ t → P k) → P r → (k : ℕ) → r - 1 < k → k ≤ t → P k
down_one P t r pos h p k l m =
    let b : r ≤ k = omega arith in
    ⊎_elim (λ (e : r ≡ k). subst P e p) (λ (a : r < k). h k a m) (eq-or-lt_of_le b)

-- ---- the number that has the digits of the levels past c up to r

abbrev pub written_digit : ℕ → ℕ → ℕ → List ℕ → ℕ → ℕ
written_digit x c r ps k = cond (ltb c k && leb k r) (walk_digit (at ps k)) (digit x k)

pub written_digit_lt : (x c r : ℕ) (ps : List ℕ) (k : ℕ) → written_digit x c r ps k < 8
written_digit_lt x c r ps k =
    let a : walk_digit (at ps k) < 8 = omega (arith, walk_digit_lt (at ps k)) in
    let b : digit x k < 8 = omega arith in
    cond_lt 8 (ltb c k && leb k r) _ _ a b

module _ (x c r : ℕ) (ps : List ℕ) (deep : r ≤ 15) (k : ℕ) (above : c < k) (within : k ≤ r) where
  here : written_digit x c r ps k ≡ walk_digit (at ps k)
  here = rw (lt-ltb c k above, le-leb k r within)

  pub written_at : digit (written x c r ps) k ≡ walk_digit (at ps k)
  unfolding written
  written_at = spell_read _ (written_digit x c r ps) (written_digit_lt x c r ps) 15 k (omega arith) (omega arith) ∙ here

  pub written_put : (q : ℕ) → length ps ≡ 16 → with_digit (written x c r ps) k (walk_digit q) ≡ written x c r (set ps k q)
  unfolding written
  written_put q long =
      let f = written_digit x c r ps in
      let g = written_digit x c r (set ps k q) in
      let new : g k ≡ walk_digit q = rw (lt-ltb c k above, le-leb k r within, get_or-set_same ps k q 0 (omega arith)) in
      let a = spell_put (x / 2 ^ 45) f g 15 k (omega arith) (omega arith) (λ i ne. rw (get_or-set_other ps k i q 0 ne)) in
      let b = old_le (spell (x / 2 ^ 45) f 15) (3 * (15 - k)) in
      let o = ap (λ (d : ℕ). d * weight k) (spell_read (x / 2 ^ 45) f (written_digit_lt x c r ps) 15 k (omega arith) (omega arith)) in
      let n = ap (λ (d : ℕ). d * weight k) new in
      omega arith

-- ---- one level after the other

-- what level r finds when it moves: the levels that it moved first; past the last level, what that one left
abbrev reached : ℕ → ℕ → List ℕ → ℕ → Moved
reached c last ps r = cond (leb r last) (settled c r ps) (move c last ps)

-- the levels before r have moved
pub record Run (c last x : ℕ) (ps : List ℕ) (r : ℕ) (qs : List ℕ) (v : Written) : Type 0 where
  pub above : c < r
  pub within : r ≤ last + 1
  pub asked : (k : ℕ) → r < k → k ≤ last → asks_parent c k ps ≡ true
  pub fine : Fine qs
  pub levels : record { positions = qs; changed = v.changed } ≡ reached c last ps r
  pub scratchpad : v.scratchpad ≡ written x c last qs

module _ (c last x : ℕ) (ps : List ℕ) (deep : last ≤ 15) where
  -- a level moves on the number that has the digits of qs
  module _ (r y : ℕ) (b : Bool) (qs rs : List ℕ) (v : Written) (above : c < r) (within : r ≤ last) (fine : Fine qs)
      (shown : y ≡ written x c last qs) (moves : MovesLevel r y b qs rs v) where
    pub level_fine : Fine rs
    level_fine = let l : next_position (at qs r) b < 18 = omega arith in rw moves.positions (set_fine qs r _ fine l)

    level_shown : v.scratchpad ≡ written x c last rs
    level_shown =
        moves.written.scratchpad ∙ ap (λ (z : ℕ). with_digit z r (walk_digit (next_position (at qs r) b))) shown
        ∙ written_put x c last qs deep r above within (next_position (at qs r) b) fine.long
        ∙ ap (written x c last) (sym moves.positions)

    level_is : record { positions = rs; changed = v.changed } ≡ level_step r (record { positions = qs; changed = b })
    unfolding level_step
    level_is =
        rw (moves.positions, moves.written.changed, shown, written_at x c last qs deep r above within)

  pub run_top : {s : ℕ} → Fine ps → x ≡ written x c last ps → Top c last ps s → Run c last x ps s ps (record { scratchpad = x; changed = false })
  run_top {s} fine shown top =
      record {
        above = top.above;
        within = omega (arith, top.within);
        asked = top.asked;
        fine = fine;
        levels = rw (le-leb s last top.within, settled_no c s ps top.alone);
        scratchpad = shown;
      }

  -- what level r left is what level r + 1 finds
  reached_next : (r : ℕ) → r ≤ last → ((k : ℕ) → r < k → k ≤ last → asks_parent c k ps ≡ true) → move c r ps ≡ reached c last ps (r + 1)
  reached_next r within asked =
      ⊎_elim
      (λ (e : r ≡ last). rw (lt-leb (r + 1) last (omega arith)) (ap (λ (k : ℕ). move c k ps) e))
      (λ (l : r < last).
      let i : r < r + 1 = omega arith in
      let b : r + 1 ≤ last = omega arith in
      let k : r ≡ r + 1 - 1 = omega arith in
      rw (le-leb (r + 1) last b, settled_yes c (r + 1) ps (asked (r + 1) i b)) (ap (λ (j : ℕ). move c j ps) k))
      (eq-or-lt_of_le within)

  pub run_next : {r : ℕ} {qs rs : List ℕ} {v u : Written} → Run c last x ps r qs v → r ≤ last → MovesLevel r v.scratchpad v.changed qs rs u
      → Run c last x ps (r + 1) rs u
  run_next {r} {qs} {rs} {v} {u} run within moves =
      let z : 0 < r = omega (arith, run.above) in
      let m : record { positions = qs; changed = v.changed } ≡ settled c r ps = run.levels ∙ rw (le-leb r last within) in
      record {
        above = omega (arith, run.above);
        within = omega arith;
        asked = λ j p q. run.asked j (omega arith) q;
        fine = level_fine r v.scratchpad v.changed qs rs u run.above within run.fine run.scratchpad moves;
        levels =
            level_is r v.scratchpad v.changed qs rs u run.above within run.fine run.scratchpad moves
            ∙ ap (level_step r) m ∙ sym (move_is c r ps z) ∙ reached_next r within run.asked;
        scratchpad = level_shown r v.scratchpad v.changed qs rs u run.above within run.fine run.scratchpad moves;
      }

  pub run_last : {r : ℕ} {qs : List ℕ} {v : Written} → Run c last x ps r qs v → last < r → Leaves c last x (move c last ps) qs v
  run_last {r} {qs} {v} run end =
      let e : record { positions = qs; changed = v.changed } ≡ move c last ps = run.levels ∙ rw (lt-leb r last end) in
      record {
        positions = ap (λ (m : Moved). m.positions) e;
        changed = ap (λ (m : Moved). m.changed) e;
        scratchpad = run.scratchpad;
      }

-- ---- the levels over the finest one

pub over_asked : (c t f : ℕ) (ps : List ℕ) → c + 1 < t → eqb (f % 3) (t % 2) ≡ true → over_finest c t f ps ≡ move c (t - 1) ps
over_asked c t f ps l e = rw (lt-ltb (c + 1) t l, e)

pub over_alone : (c t f : ℕ) (ps : List ℕ) → c + 1 < t → eqb (f % 3) (t % 2) ≡ false → over_finest c t f ps ≡ still ps
over_alone c t f ps l e = rw (lt-ltb (c + 1) t l, e)

pub over_none : (c t f : ℕ) (ps : List ℕ) → t ≤ c + 1 → over_finest c t f ps ≡ still ps
over_none c t f ps l = rw (le-ltb (c + 1) t l)

pub leaves_still : (c r x : ℕ) (m : Moved) (ps : List ℕ) → x ≡ written x c r ps → m ≡ still ps → Leaves c r x m ps (record { scratchpad = x; changed = false })
leaves_still c r x m ps shown e = record { positions = rw e; changed = rw e; scratchpad = shown }
