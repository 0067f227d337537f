-- Laws of a step: which walk comes next, and which edges are left.
--     next_walking                      the state after a step is in order
--     rest_next                         one edge is handed over, and the rest is left
--     rest_count                        the count is that of the edges left
--     finer_next, own_next, own_over    the next walk below the cell's resolution, at it, and where a step is passed over
--     step_steps                        so the step keeps its promise
-- Assumes nothing.
use mathlib.Core.Path.{◌≡◌, refl, ◌∙◌, ap, sym}
use mathlib.Core.Bool.{Bool, true, false, cond}
use mathlib.Core.List.{List, ◌∷◌}
use mathlib.Core.Logic.{⊎_elim}
use Prim.Native.Nat.{ℕ, ◌-◌, ◌<◌, ◌≤◌}
use native.Mathlib.Omega.{arith}
use lib.ListN.{length}
use Rattle.scope.specs.Walk.{Walk, step, edges}
use Rattle.scope.proofs.Tests.{clash, either, never}
use Rattle.scope.proofs.Walks.{step_still, edges_give, passed_none}
use Rattle.scope.proofs.Odometer.{Fine, step_fine}
use Rattle.scope.proofs.WalkCounts.{edges_count}
use Rattle.scope.proofs.WalkOwners.{step_turns}
use Rattle.scope.proofs.EdgeDigits.{edges_again}
use Rattle.gosper.specs.declared.Gosper.{Gosper}
use Rattle.gosper.specs.Walking.{walk_of, turned, next_walk, next, moved_to, Walking, rest, Steps}
use Rattle.gosper.proofs.Walkings.{walk_at, walking_at, fine_walk, at_again}

-- at the cell's resolution a step moves the edge position alone
pub still_turned : (c t : ℕ) (w : Walk) → t ≤ c → turned w false ≡ step c t w
still_turned c t w l = sym (step_still c t w l)

module _ (g : Gosper) where
  pub next_one : g.skips ≡ false → step g.parent g.child (walk_of g) ≡ next_walk g
  next_one e = rw e

  pub next_two : g.skips ≡ true → step g.parent g.child (step g.parent g.child (walk_of g)) ≡ next_walk g
  next_two e = rw e

module _ (g : Gosper) (walking : Walking g) where
  abbrev c : ℕ
  c = g.parent

  abbrev t : ℕ
  t = g.child

  next_sound : (b : Bool) → Fine (cond b (step c t (step c t (walk_of g))) (step c t (walk_of g))).positions × ((cond b (step c t (step c t (walk_of g))) (step c t (walk_of g))).edge_position < 6)
  next_sound true = (step_fine c t (step c t (walk_of g)) (step_fine c t (walk_of g) (fine_walk g walking)), step_turns c t (step c t (walk_of g)))
  next_sound false = (step_fine c t (walk_of g) (fine_walk g walking), step_turns c t (walk_of g))

  pub next_walking : Walking (next g)
  next_walking =
      walking_at g.scratchpad c t false (g.count - 1) (next_walk g) walking.down walking.deep (next_sound g.skips).0 (next_sound g.skips).1
      (λ e. absurd (clash e refl))

  rest_after : rest (next g) ≡ edges false g.scratchpad c t (g.count - 1) (next_walk g)
  unfolding rest
  rest_after =
      ap (edges false (next g).scratchpad c t (g.count - 1)) (walk_at g.scratchpad c t false (g.count - 1) (next_walk g))
      ∙ edges_again g.scratchpad c t (next_walk g) walking.deep false (g.count - 1) (next_walk g)

  rest_first : 0 < g.count → rest g ≡ g.scratchpad ∷ edges false g.scratchpad c t (g.count - 1) (next_walk g)
  unfolding rest
  rest_first some = ⊎_elim (λ (e : g.skips ≡ true). rw e) (λ (e : g.skips ≡ false). rw e given) (either g.skips)
    where
      given : edges false g.scratchpad c t g.count (walk_of g) ≡ g.scratchpad ∷ edges false g.scratchpad c t (g.count - 1) (step c t (walk_of g))
      given =
          edges_give false g.scratchpad c t g.count (walk_of g) some (passed_none false c t (walk_of g) refl)
          ∙ ap (λ (y : ℕ). y ∷ edges false g.scratchpad c t (g.count - 1) (step c t (walk_of g))) (sym walking.scratchpad)

  pub rest_next : 0 < g.count → rest g ≡ g.scratchpad ∷ rest (next g)
  rest_next some = rest_first some ∙ ap (λ (l : List ℕ). g.scratchpad ∷ l) (sym rest_after)

  pub rest_count : g.count ≡ length (rest g)
  unfolding rest
  rest_count =
      ⊎_elim
      (λ (e : g.skips ≡ true).
      let some = (walking.skips e).1 in
      let n = edges_count g.scratchpad c t (g.count - 1) (step c t (step c t (walk_of g))) in
      rw e (omega arith))
      (λ (e : g.skips ≡ false). rw e (sym (edges_count g.scratchpad c t g.count (walk_of g))))
      (either g.skips)

-- ---- the code's ways to the next walk

-- a state, handed over: one edge fewer, and nothing more to pass over
abbrev pub counted : Gosper → Gosper
counted g =
    record {
      scratchpad = g.scratchpad;
      count = g.count - 1;
      positions = g.positions;
      finest = g.finest;
      facing = g.facing;
      parent = g.parent;
      child = g.child;
      skips = false;
    }

module _ (g : Gosper) (walking : Walking g) where
  -- below the cell's resolution nothing is passed over
  pub finer_next : g.parent < g.child → moved_to g (step g.parent g.child (walk_of g)) ≡ moved_to g (next_walk g)
  finer_next l =
      let e : g.skips ≡ false = never g.skips (λ h. let i = (walking.skips h).0 in omega arith) in
      ap (moved_to g) (next_one g e)

  pub turned_walking : {h : Gosper} → h ≡ moved_to g (turned (walk_of g) false) → Walking h
  turned_walking e =
      rw e
      (walking_at g.scratchpad g.parent g.child g.skips g.count (turned (walk_of g) false) walking.down walking.deep (fine_walk g walking)
      (omega arith) walking.skips)

  module _ (own : g.child ≤ g.parent) where
    pub own_next : g.skips ≡ false → moved_to g (turned (walk_of g) false) ≡ moved_to g (next_walk g)
    own_next e = ap (moved_to g) (still_turned g.parent g.child (walk_of g) own ∙ next_one g e)

    pub own_over : {h : Gosper} → g.skips ≡ true → h ≡ moved_to g (turned (walk_of g) false) → moved_to h (turned (walk_of h) false) ≡ moved_to g (next_walk g)
    own_over {h} e i =
        let w = turned (walk_of g) false in
        let k : turned (walk_of (moved_to g w)) false ≡ next_walk g =
        ap (λ (v : Walk). turned v false) (walk_at g.scratchpad g.parent g.child g.skips g.count w)
        ∙ still_turned g.parent g.child w own ∙ ap (step g.parent g.child) (still_turned g.parent g.child (walk_of g) own) ∙ next_two g e in
        ap (λ (y : Gosper). moved_to y (turned (walk_of y) false)) i
        ∙ at_again g.scratchpad g.parent g.child g.skips g.count w walking.deep (turned (walk_of (moved_to g w)) false)
        ∙ ap (moved_to g) k

  pub some_left : 0 < length (rest g) → 0 < g.count
  some_left l = omega (arith, rest_count g walking)

  pub step_steps : {h : Gosper} → 0 < length (rest g) → h ≡ moved_to g (next_walk g) → Steps g (record { edge = g.scratchpad; walk = counted h })
  step_steps {h} some e =
      let n : counted h ≡ next g = ap counted e in
      record {
        fields = ap (λ (y : Gosper). record { edge = g.scratchpad; walk = y }) n;
        walking = rw n (next_walking g walking);
        rest = rest_next g walking (some_left some) ∙ ap (λ (y : Gosper). g.scratchpad ∷ rest y) (sym n);
      }
