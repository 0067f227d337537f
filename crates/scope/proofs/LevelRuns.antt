-- Many moves of one level of the walk: what they do to the levels up to it, and how often its digit changes.
--     move_other    a level does not see the levels after it
--     run           n moves of a level: the positions, and how many of them changed the level's digit
--     three         three moves of a level are one of its parent level, and three of its own
--     run_thrice    3 · n moves of a level are n moves of its parent level
-- Assumes nothing.
use mathlib.Core.Path.{◌≡◌, refl, ◌∙◌, ap, sym}
use mathlib.Core.Bool.{Bool, true, false, cond, ◌&&◌, ◌||◌, not}
use mathlib.Core.List.{List}
use Prim.Native.Nat.{ℕ, zero, suc, ◌+◌, ◌-◌, ◌*◌, ◌%◌, ◌<◌, ◌≤◌}
use native.Mathlib.Nat.{zero-add, suc-add, add_assoc}
use native.Mathlib.Omega.{arith}
use lib.Dec.{eqb}
use lib.ListN.{set}
use lib.Seq.{get_or-set_same, get_or-set_other, set-set, set_comm}
use borrow.Author.Tests.{eqb-true, ne_eqb}
use Rattle.scope.specs.Lists.{at, first_bad, from}
use Rattle.scope.specs.Walk.{Moved, still, level_step, asks_parent, next_position, walk_digit, move}
use Rattle.scope.proofs.Tests.{and_left, and_right}
use Rattle.scope.proofs.Scan.{passes_at}
use Rattle.scope.proofs.Walks.{settled_yes, settled_no, move_is, asks_yes, asks_no}
use Rattle.scope.proofs.Odometer.{Fine, move_fine, phase, phase_last, phase_next}

-- ---- a level does not see the levels after it

moved_other : (r j q : ℕ) (m n : Moved) → r < j → m ≡ record { positions = set n.positions j q; changed = n.changed }
    → level_step r m ≡ record { positions = set (level_step r n).positions j q; changed = (level_step r n).changed }
unfolding level_step
moved_other r j q m n h e =
    let a : at (set n.positions j q) r ≡ at n.positions r = get_or-set_other n.positions j r q 0 (omega arith) in
    rw (e, a, set_comm n.positions j r q (next_position (at n.positions r) n.changed) (omega arith))

pub move_other : (c r j q : ℕ) (ps : List ℕ) → r < j → move c r (set ps j q) ≡ record { positions = set (move c r ps).positions j q; changed = (move c r ps).changed }
unfolding move
move_other c zero j q ps h = refl
move_other c (suc r) j q ps h =
    let a : at (set ps j q) (suc r) ≡ at ps (suc r) = get_or-set_other ps j (suc r) q 0 (omega arith) in
    moved_other (suc r) j q _ _ h (rw a (go (asks_parent c (suc r) ps) (move_other c r j q ps (omega arith))))
  where
    go : (b : Bool) → move c r (set ps j q) ≡ record { positions = set (move c r ps).positions j q; changed = (move c r ps).changed }
        → cond b (move c r (set ps j q)) (still (set ps j q))
        ≡ record { positions = set (cond b (move c r ps) (still ps)).positions j q; changed = (cond b (move c r ps) (still ps)).changed }
    go true e = e
    go false e = refl

-- ---- n moves of a level

pub record Run : Type 0 where
  pub positions : List ℕ
  pub changes : ℕ

abbrev pub one : Bool → ℕ
one b = cond b 1 0

unfoldable pub run : ℕ → ℕ → ℕ → List ℕ → Run
run c r zero ps = record { positions = ps; changes = 0 }
run c r (suc n) ps =
    let s = run c r n (move c r ps).positions in
    record { positions = s.positions; changes = one (move c r ps).changed + s.changes }

-- the move of a level that does not ask its parent level, at position p, and of one that does
pub level_alone : (c r p : ℕ) (ps : List ℕ) → Fine ps → r ≤ 15 → 0 < r → asks_parent c r (set ps r p) ≡ false
    → move c r (set ps r p) ≡ record { positions = set ps r (next_position p false); changed = not (eqb (walk_digit (next_position p false)) (walk_digit p)) }
unfolding level_step
level_alone c r p ps f d z a =
    let e : at (set ps r p) r ≡ p = get_or-set_same ps r p 0 (omega (arith, f.long)) in
    rw (move_is c r (set ps r p) z, settled_no c r (set ps r p) a, e, set-set ps r p (next_position p false))

level_after : (c r p : ℕ) (ps : List ℕ) → Fine ps → r ≤ 15 → 0 < r → asks_parent c r (set ps r p) ≡ true
    → move c r (set ps r p)
    ≡ (let m = move c (r - 1) ps in
    let q = next_position p m.changed in
    record { positions = set m.positions r q; changed = not (eqb (walk_digit q) (walk_digit p)) })
unfolding level_step
level_after c r p ps f d z a =
    let m = move c (r - 1) ps in
    let e : at (set m.positions r p) r ≡ p = get_or-set_same m.positions r p 0 (omega (arith, (move_fine c (r - 1) ps f).long)) in
    rw (
      move_is c r (set ps r p) z,
      settled_yes c r (set ps r p) a,
      move_other c (r - 1) r p ps (omega arith),
      e,
      set-set m.positions r p (next_position p m.changed),
    )

-- ---- three moves of a level move its parent level once

abbrev differs : ℕ → ℕ → ℕ
differs q p = one (not (eqb (walk_digit q) (walk_digit p)))

-- how often the digit changes in three moves from position p on, where b says that the parent's digit changed in the third
abbrev changes_from : ℕ → Bool → ℕ
changes_from p b =
    let q = next_position p false in
    let r = next_position q false in
    differs q p + (differs r q + (differs (next_position r b) r + 0))

changes_are : (p : ℕ) (b : Bool) → p < 18 → (p % 3 ≡ 0 → ⊥) → changes_from p b ≡ 1 + one b
unfolding first_bad from
changes_are p b h n = go b
  where
    ok : ℕ → Bool
    ok k = eqb (k % 3) 0 || eqb (changes_from k false) 1 && eqb (changes_from k true) 2

    both : (eqb (changes_from p false) 1 && eqb (changes_from p true) 2) ≡ true
    both = rw (ne_eqb (p % 3) 0 n) at (passes_at ok 18 refl p h)

    go : (b : Bool) → changes_from p b ≡ 1 + one b
    go false = eqb-true _ _ (and_left _ _ both)
    go true = eqb-true _ _ (and_right (eqb (changes_from p false) 1) _ both)

abbrev pub ran : List ℕ → ℕ → Run
ran l i = record { positions = l; changes = i }

-- the phases 0, 1 and 2 follow one another, and at 2 the level asks
asks_last : (r p : ℕ) → phase r p ≡ 2 → p % 3 ≡ r % 2
asks_last r p e = omega arith

asks_else : (r p k : ℕ) → k < 2 → phase r p ≡ k → p % 3 ≡ r % 2 → ⊥
asks_else r p k h e i = let f = phase_last r p i in omega arith

not_first : (r p : ℕ) → phase r p ≡ 0 → p % 3 ≡ 0 → ⊥
not_first r p e i = omega arith

module _ (c r : ℕ) (below : c + 1 < r) (deep : r ≤ 15) where
  asks_at : (ps : List ℕ) (p : ℕ) → Fine ps → p % 3 ≡ r % 2 → asks_parent c r (set ps r p) ≡ true
  asks_at ps p f e = asks_yes c r (set ps r p) below (ap (λ (y : ℕ). y % 3) (get_or-set_same ps r p 0 (omega (arith, f.long))) ∙ e)

  asks_not : (ps : List ℕ) (p : ℕ) → Fine ps → (p % 3 ≡ r % 2 → ⊥) → asks_parent c r (set ps r p) ≡ false
  asks_not ps p f n =
      asks_no c r (set ps r p) below (λ e. n (sym (ap (λ (y : ℕ). y % 3) (get_or-set_same ps r p 0 (omega (arith, f.long)))) ∙ e))

  three : (ps : List ℕ) (p : ℕ) → Fine ps → p < 18 → phase r p ≡ 0
      → run c r 3 (set ps r p)
      ≡ record { positions = set (move c (r - 1) ps).positions r ((p + 12 * one (move c (r - 1) ps).changed + 3) % 18); changes = 1 + one (move c (r - 1) ps).changed }
  unfolding run
  three ps p f h e =
      let z : 0 < r = omega arith in
      let p₁ = next_position p false in
      let p₂ = next_position p₁ false in
      let l : 0 < 2 = omega arith in
      let l₁ : 1 < 2 = omega arith in
      let e₁ : phase r p₁ ≡ 1 = phase_next r p false (rw e l) ∙ ap (λ (y : ℕ). y + 1) e in
      let e₂ : phase r p₂ ≡ 2 = phase_next r p₁ false (rw e₁ l₁) ∙ ap (λ (y : ℕ). y + 1) e₁ in
      let m = move c (r - 1) ps in
      rw (
        level_alone c r p ps f deep z (asks_not ps p f (asks_else r p 0 l e)),
        level_alone c r p₁ ps f deep z (asks_not ps p₁ f (asks_else r p₁ 1 l₁ e₁)),
        level_after c r p₂ ps f deep z (asks_at ps p₂ f (asks_last r p₂ e₂)),
      )
      (ap (λ (q : ℕ). ran (set m.positions r q) (changes_from p m.changed)) (go m.changed)
      ∙ ap (ran (set m.positions r ((p + 12 * one m.changed + 3) % 18))) (changes_are p m.changed h (not_first r p e)))
    where
      go : (b : Bool) → next_position (next_position (next_position p false) false) b ≡ (p + 12 * one b + 3) % 18
      go true = omega arith
      go false = omega arith

run_none : (c r : ℕ) (ps : List ℕ) → run c r 0 ps ≡ ran ps 0
unfolding run
run_none c r ps = refl

run_more : (c r n : ℕ) (ps : List ℕ)
    → run c r (suc n) ps
    ≡ ran (run c r n (move c r ps).positions).positions (one (move c r ps).changed + (run c r n (move c r ps).positions).changes)
unfolding run
run_more c r n ps = refl

phase_third : (r p g : ℕ) → phase r p ≡ 0 → phase r ((p + 12 * g + 3) % 18) ≡ 0
phase_third r p g e = omega arith

third_place : (p g n k : ℕ) → ((p + 12 * g + 3) % 18 + 3 * n + 12 * k) % 18 ≡ (p + (3 + 3 * n) + 12 * (g + k)) % 18
third_place p g n k = omega arith

run_add : (c r a b : ℕ) (ps : List ℕ)
    → run c r (a + b) ps
    ≡ ran (run c r b (run c r a ps).positions).positions ((run c r a ps).changes + (run c r b (run c r a ps).positions).changes)
unfolding run
run_add c r zero b ps = rw (zero-add b, zero-add (run c r b ps).changes)
run_add c r (suc a) b ps = rw (suc-add a b, run_add c r a b (move c r ps).positions, add_assoc)

module _ (c r : ℕ) (below : c + 1 < r) (deep : r ≤ 15) where
  pub run_thrice : (n : ℕ) (ps : List ℕ) (p : ℕ) → Fine ps → p < 18 → phase r p ≡ 0
      → run c r (3 * n) (set ps r p)
      ≡ ran (set (run c (r - 1) n ps).positions r ((p + 3 * n + 12 * (run c (r - 1) n ps).changes) % 18)) (n + (run c (r - 1) n ps).changes)
  run_thrice zero ps p f h e =
      let a : 3 * 0 ≡ 0 = omega arith in
      let b : (p + 3 * 0 + 12 * 0) % 18 ≡ p = omega arith in
      rw (run_none c (r - 1) ps, b, a) (run_none c r (set ps r p))
  run_thrice (suc n) ps p f h e =
      let a : 3 * suc n ≡ 3 + 3 * n = omega arith in
      let m = move c (r - 1) ps in
      let g = one m.changed in
      let p₃ = (p + 12 * g + 3) % 18 in
      let s = run c (r - 1) n m.positions in
      let l : p₃ < 18 = omega arith in
      let t = run_thrice n m.positions p₃ (move_fine c (r - 1) ps f) l (phase_third r p g e) in
      let u : (p₃ + 3 * n + 12 * s.changes) % 18 ≡ (p + (3 + 3 * n) + 12 * (g + s.changes)) % 18 = third_place p g n s.changes in
      let v : 1 + g + (n + s.changes) ≡ suc n + (g + s.changes) = omega arith in
      rw (a, run_add c r 3 (3 * n) (set ps r p), three c r below deep ps p f h e, t, run_more c (r - 1) n ps)
      (ap (λ (q : ℕ). ran (set s.positions r q) (1 + g + (n + s.changes))) u ∙ ap (ran (set s.positions r ((p + (3 + 3 * n) + 12 * (g + s.changes)) % 18))) v)
