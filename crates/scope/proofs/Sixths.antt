-- The walk has six equal sides: after a sixth of its steps each position is 3 further, and the edge position is 1.
--     turn_levels    a sixth of a level's moves
--     after_run      the walk's steps are the moves of its finest level
--     first_sixth    the first walk after a sixth of its steps
-- Assumes nothing.
use mathlib.Core.Path.{◌≡◌, refl, ◌∙◌, ap, sym, subst}
use mathlib.Core.Bool.{Bool, true, false, cond, ◌&&◌}
use mathlib.Core.List.{List}
use mathlib.Core.Logic.{◌⊎◌, inl, inr, ⊎_elim}
use Prim.Native.Nat.{ℕ, zero, suc, ◌+◌, ◌-◌, ◌*◌, ◌%◌, ◌^◌, ◌<◌, ◌≤◌}
use native.Mathlib.Nat.{pow-suc, eq-or-lt_of_le}
use native.Mathlib.Omega.{arith}
use lib.Dec.{ltb, leb, lit<}
use lib.ListN.{set}
use lib.Seq.{get_or-set_same, get_or-set_other, set-get_or, ext_get_or}
use borrow.Author.Tests.{lt-ltb, le-ltb, lt-leb, le-leb}
use Rattle.scope.specs.Lists.{at, tabulate, tabulate_from}
use Rattle.scope.specs.Walk.{move, next_edge_position, first_position, first_walk}
use Rattle.scope.proofs.Tests.{le_or_lt}
use Rattle.scope.proofs.Walks.{asks_first, step_moved}
use Rattle.scope.proofs.WalkStarts.{first_at, tabulate_at}
use Rattle.scope.proofs.Odometer.{Fine, set_fine, first_fine, level, phase, phase_first}
use Rattle.scope.proofs.WalkCounts.{after, third}
use Rattle.scope.proofs.LevelRuns.{Run, one, run, ran, level_alone, run_thrice}

-- ---- a sixth of the walk

-- every level is 3 further, and the last changed its digit as often as it takes to turn the edge position by 1
record Turned (c k : ℕ) (ps : List ℕ) (s : Run) : Type 0 where
  fine : Fine s.positions
  often : 2 * s.changes + 1 ≡ 3 * 3 ^ k
  levels : (j : ℕ) → c < j → j ≤ level c k → at s.positions j ≡ (at ps j + 3) % 18
  others : (j : ℕ) → (j ≤ c) ⊎ (level c k < j) → at s.positions j ≡ at ps j

-- the first child level, from position 0
turned_first : (c r : ℕ) (ps : List ℕ) → Fine ps → r ≤ 15 → r ≡ c + 1 → run c r 3 (set ps r 0) ≡ ran (set ps r 3) 1
unfolding run
turned_first c r ps f d e =
    let z : 0 < r = omega arith in
    let l : r ≤ c + 1 = omega arith in
    rw (
      level_alone c r 0 ps f d z (asks_first c r (set ps r 0) l),
      level_alone c r 1 ps f d z (asks_first c r (set ps r 1) l),
      level_alone c r 2 ps f d z (asks_first c r (set ps r 2) l),
    )

around : (a k : ℕ) → (a + 18 * k) % 18 ≡ a % 18
around a k = omega arith

turned_place : (p n k : ℕ) → 2 * k + 1 ≡ n → (p + 3 * n + 12 * k) % 18 ≡ (p + 3) % 18
turned_place p n k e = ap (λ (y : ℕ). y % 18) (let a : p + 3 * n + 12 * k ≡ p + 3 + 18 * k = omega arith in a) ∙ around (p + 3) k

-- one level more
turned_more : (c k r n : ℕ) (ps : List ℕ) (s : Run) → Fine ps → r ≤ 15 → r ≡ level c (suc k) → n ≡ 3 * 3 ^ k → Turned c k ps s
    → Turned c (suc k) ps (ran (set s.positions r ((at ps r + 3 * n + 12 * s.changes) % 18)) (n + s.changes))
turned_more c k r n ps s f d e m t =
    let q = (at ps r + 3 * n + 12 * s.changes) % 18 in
    let o = t.often in
    let l : q < 18 = omega arith in
    let v : q ≡ (at ps r + 3) % 18 = turned_place (at ps r) n s.changes (omega arith) in
    record {
      fine = set_fine s.positions r q t.fine l;
      often = omega (arith, pow-suc 3 k);
      levels =
          λ j a b.
          ⊎_elim
          (λ (i : j ≡ r). rw i (get_or-set_same s.positions r q 0 (omega (arith, t.fine.long)) ∙ v))
          (λ (i : j < r). get_or-set_other s.positions r j q 0 (omega arith) ∙ t.levels j a (omega arith))
          (eq-or-lt_of_le (let g : j ≤ r = omega arith in g));
      others =
          λ j a.
          ⊎_elim
          (λ (i : j ≤ c). get_or-set_other s.positions r j q 0 (omega arith) ∙ t.others j (inl i))
          (λ (i : level c (suc k) < j). get_or-set_other s.positions r j q 0 (omega arith) ∙ t.others j (inr (omega arith)))
          a;
    }

turn_levels : (c k : ℕ) (ps : List ℕ) → Fine ps → level c k ≤ 15 → at ps (c + 1) ≡ 0 → ((j : ℕ) → c + 1 < j → j ≤ level c k → phase j (at ps j) ≡ 0)
    → Turned c k ps (run c (level c k) (3 * 3 ^ k) ps)
turn_levels c zero ps f d first rest =
    let r = level c 0 in
    let a : r ≡ c + 1 = omega arith in
    let p : at ps r ≡ 0 = ap (at ps) a ∙ first in
    let e : run c r 3 ps ≡ ran (set ps r 3) 1 =
    ap (run c r 3) (sym (set-get_or ps r 0) ∙ ap (set ps r) p) ∙ turned_first c r ps f d a in
    rw e
    (record {
      fine = set_fine ps r 3 f (lit< tt);
      often = refl;
      levels =
          λ j g l.
          let i : j ≡ r = omega arith in
          rw (i, p) (get_or-set_same ps r 3 0 (omega (arith, f.long)));
      others = λ j g. get_or-set_other ps r j 3 0 (⊎_elim (λ (l : j ≤ c). λ i. omega arith) (λ (l : r < j). λ i. omega arith) g);
    })
turn_levels c (suc k) ps f d first rest =
    let r = level c (suc k) in
    let n = 3 * 3 ^ k in
    let a : 3 * 3 ^ suc k ≡ 3 * n = omega (arith, pow-suc 3 k) in
    let b : r - 1 ≡ level c k = omega arith in
    let i : Turned c k ps (run c (r - 1) n ps) = rw b (turn_levels c k ps f (omega arith) first (λ j p q. rest j p (omega arith))) in
    let e : run c r (3 * n) ps ≡ ran (set (run c (r - 1) n ps).positions r ((at ps r + 3 * n + 12 * (run c (r - 1) n ps).changes) % 18)) (n + (run c (r - 1) n ps).changes) =
    ap (run c r (3 * n)) (sym (set-get_or ps r 0)) ∙ run_thrice c r (omega arith) d n ps (at ps r) f (f.round r) (rest r (omega arith) (omega arith)) in
    rw (a, e) (turned_more c k r n ps (run c (r - 1) n ps) f d refl refl i)

turned_edge : (e n k : ℕ) (b : Bool) → (next_edge_position e b + n + 4 * k) % 6 ≡ (e + suc n + 4 * (one b + k)) % 6
turned_edge e n k true = omega arith
turned_edge e n k false = omega arith

after_run : (c t n e : ℕ) (ps : List ℕ) → c < t → e < 6
    → after c t n (record { positions = ps; edge_position = e })
    ≡ record { positions = (run c t n ps).positions; edge_position = (e + n + 4 * (run c t n ps).changes) % 6 }
unfolding after run
after_run c t zero e ps h l = ap (λ (y : ℕ). record { positions = ps; edge_position = y }) (let a : e ≡ (e + 0 + 0) % 6 = omega arith in a)
after_run c t (suc n) e ps h l =
    let m = move c t ps in
    let s = run c t n m.positions in
    let b : next_edge_position e m.changed < 6 = omega arith in
    rw (
      step_moved c t (record { positions = ps; edge_position = e }) m h refl,
      after_run c t n (next_edge_position e m.changed) m.positions h b,
    )
    (ap (λ (y : ℕ). record { positions = s.positions; edge_position = y }) (turned_edge e n s.changes m.changed))

-- the first walk there, place by place
module _ (c t : ℕ) (above : c < t) (deep : t ≤ 15) where
  abbrev first : List ℕ
  first = (first_walk c t).positions

  abbrev sixth : ℕ → ℕ
  sixth r = cond (ltb c r && leb r t) ((first_position c r + 3) % 18) 0

  first_is : (i : ℕ) → i < 16 → at first i ≡ cond (leb i t) (first_position c i) 0
  unfolding first_walk
  first_is i h = tabulate_at (λ r. cond (leb r t) (first_position c r) 0) 0 16 i i (omega arith) h

  sixth_at : (s : Run) → Turned c (t - c - 1) first s → (i : ℕ) → i < 16 → at s.positions i ≡ sixth i
  sixth_at s u i h =
      ⊎_elim
      (λ (a : i ≤ c).
      u.others i (inl a) ∙ first_is i h ∙ rw (le-leb i t (omega arith), le-ltb (c + 1) i (omega arith), le-ltb c i a))
      (λ (a : c < i).
      ⊎_elim
      (λ (b : i ≤ t). u.levels i a (omega arith) ∙ rw (lt-ltb c i a, le-leb i t b, first_at c t i (omega arith) b deep))
      (λ (b : t < i). u.others i (inr (omega arith)) ∙ first_is i h ∙ rw (lt-ltb c i a, lt-leb i t b))
      (le_or_lt i t))
      (le_or_lt i c)

  sixth_list : (s : Run) → Turned c (t - c - 1) first s → s.positions ≡ tabulate sixth 16
  unfolding tabulate_from
  sixth_list s u =
      ext_get_or 0 s.positions (tabulate sixth 16) u.fine.long
      (λ i h.
      let l : i < 16 = omega (arith, u.fine.long) in
      sixth_at s u i l ∙ sym (tabulate_at sixth 0 16 i i (omega arith) l))

  turned : Turned c (t - c - 1) first (run c t (3 ^ (t - c)) first)
  turned =
      let k = t - c - 1 in
      let e : level c k ≡ t = omega arith in
      let a : at first (c + 1) ≡ 0 = first_at c t (c + 1) (omega arith) (omega arith) deep ∙ rw (le-ltb (c + 1) (c + 1) (omega arith)) in
      rw (third c t above)
      (subst (λ (r : ℕ). Turned c k first (run c r (3 * 3 ^ k) first)) e
      (turn_levels c k first (first_fine c t) (omega arith) a
      (λ j p q. ap (phase j) (first_at c t j (omega arith) (omega arith) deep) ∙ phase_first c j p)))

around_edge : (k : ℕ) → (6 * k + 1) % 6 ≡ 1
around_edge k = omega arith

pub first_sixth : (c t : ℕ) → c < t → t ≤ 15
    → after c t (3 ^ (t - c)) (first_walk c t)
    ≡ record { positions = tabulate (λ r. cond (ltb c r && leb r t) ((first_position c r + 3) % 18) 0) 16; edge_position = 1 }
unfolding first_walk
first_sixth c t h d =
    let n = 3 ^ (t - c) in
    let s = run c t n (first_walk c t).positions in
    let u = turned c t h d in
    let e : 0 + n + 4 * s.changes ≡ 6 * s.changes + 1 = omega (arith, third c t h, u.often) in
    after_run c t n 0 (first_walk c t).positions h (lit< tt)
    ∙ ap (λ (l : List ℕ). record { positions = l; edge_position = (0 + n + 4 * s.changes) % 6 }) (sixth_list c t h d s u)
    ∙ ap (λ (y : ℕ). record { positions = tabulate (sixth c t h d) 16; edge_position = y }) (ap (λ (y : ℕ). y % 6) e ∙ around_edge s.changes)
