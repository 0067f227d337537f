-- The functions of Afresh compute what Standing defines.
--     given_test, test_given         `is_given` is `Given`
--     stands_test, test_stands       `is_standing` is `Stands`
--     successor_agrees               `successor` answers the ring successor of a standing row
--     successor_permutes             it permutes the standing rows
--     rows_agree, rows_fresh         `standing_rows` lists exactly the rows that stand, each once
--     rings_agree                    a list of `rings` is the cycle of the successor from its lowest row, each row standing and there once
--     row_ring, row_ring_one         every standing row is in exactly one of them; `starts_fresh`: no ring is listed twice
-- Assumes nothing.
use mathlib.Core.Path.{◌≡◌, refl, sym, ◌∙◌, ap, subst}
use mathlib.Core.Logic.{inl, inr}
use mathlib.Core.Bool.{Bool, true, false, ◌||◌, not}
use mathlib.Core.List.Memᴰ
use mathlib.Core.List.{List, [], ◌∷◌, Memᴰ}
use Prim.Native.Nat.{ℕ, suc, ◌≤◌}
use Rattle.scope.specs.Lists.{member}
use Rattle.scope.specs.Table.{Table, row_count, reverse_of}
use Rattle.scope.specs.Standing.{Lands, here, on, Given, Stands, outlines, StandsIn, SuccessorIn}
use Rattle.scope.specs.Afresh.{is_given, is_standing, successor, standing_rows, ring, rings, starts_ring, ring_starts}
use Rattle.scope.proofs.Tests.{clash, and_left, and_right, and_both}
use Rattle.scope.proofs.Lands.{lands_same, lands_to}
use Rattle.scope.proofs.Members.{Fresh, mem_dec, member_true, member_false, below_mem, mem_below, below_fresh}
use Rattle.scope.proofs.Finite.{steps, follow_is}
use Rattle.scope.proofs.Cycle.{iter, Permutes, iter_in}
use Rattle.scope.proofs.Rings.{ring_mem, mem_ring, ring_fresh, starts_stand, starts_lowest, ring_with, ring_one}
use Rattle.scope.proofs.Successor.{successor_run, successor_stands, successor_injective}
use Rattle.scope.proofs.Proper.{Proper, proper_given, proper_turns}

pub given_test : (os : List (List ℕ)) (a : ℕ) → Given os a → is_given os a ≡ true
unfolding is_given
given_test [] a g = absurd g
given_test (o ∷ os) a (inl m) = rw (member_true m)
given_test (o ∷ os) a (inr g) = or_right (member a o) (given_test os a g)
  where
    or_right : (b : Bool) → is_given os a ≡ true → (b || is_given os a) ≡ true
    or_right true e = refl
    or_right false e = e

pub test_given : (os : List (List ℕ)) (a : ℕ) → is_given os a ≡ true → Given os a
unfolding is_given
test_given [] a e = absurd (clash e refl)
test_given (o ∷ os) a e = go (mem_dec a o) (λ k. test_given os a k)
  where
    go : Dec (Memᴰ a o) → (is_given os a ≡ true → Given os a) → Given (o ∷ os) a
    go (yes m) ih = inl m
    go (no n) ih = inr (ih (rw (member_false a o n) at e))

module _ (os : List (List ℕ)) (rev : ℕ → ℕ) (a : ℕ) where
  not_given : (Given os (rev a) → ⊥) → not (is_given os (rev a)) ≡ true
  not_given n = go (is_given os (rev a)) (λ e. n (test_given os (rev a) e))
    where
      go : (b : Bool) → (b ≡ true → ⊥) → not b ≡ true
      go true m = absurd (m refl)
      go false m = refl

  pub stands_test : Stands (Given os) rev a → is_standing os rev a ≡ true
  unfolding is_standing
  stands_test s = and_both (is_given os a) (not (is_given os (rev a))) (given_test os a s.0) (not_given s.1)

  pub test_stands : is_standing os rev a ≡ true → Stands (Given os) rev a
  unfolding is_standing
  test_stands e =
      let g = is_given os a in
      let h = is_given os (rev a) in
      (test_given os a (and_left g (not h) e), λ k. clash (and_right g (not h) e) (ap not (given_test os (rev a) k)))

-- a landing at stops put in another way takes as many steps
same_steps : {S S' : ℕ → Type 0} {f : ℕ → ℕ} {x y : ℕ} (p : (a : ℕ) → S a → S' a) (q : (a : ℕ) → S' a → S a) (r : Lands S f x y) → steps (lands_same p q r) ≡ steps r
unfolding steps lands_same
same_steps p q (here s) = refl
same_steps p q (on n r) = ap suc (same_steps p q r)

module _ {t : Table} {cs : List ℕ} (P : Proper t cs) where
  -- THE SUCCESSOR
  pub successor_agrees : (a : ℕ) → StandsIn t cs a → SuccessorIn t cs a (successor t cs a)
  unfolding successor
  successor_agrees a s = go (successor_run (row_count t) (λ a h. h) P.reverses (proper_turns P) a s)
    where
      to : (a : ℕ) → StandsIn t cs a → is_standing (outlines t cs) (reverse_of t) a ≡ true
      to a s = stands_test (outlines t cs) (reverse_of t) a s

      from : (a : ℕ) → is_standing (outlines t cs) (reverse_of t) a ≡ true → StandsIn t cs a
      from a s = test_stands (outlines t cs) (reverse_of t) a s

      go : (b : ℕ) × (r : SuccessorIn t cs a b) × (steps r ≤ row_count t) → SuccessorIn t cs a (successor t cs a)
      go (b, r, h) = lands_to (sym (follow_is (is_standing (outlines t cs) (reverse_of t)) (row_count t) (lands_same to from r)
          (subst (λ (k : ℕ). k ≤ row_count t) (sym (same_steps to from r)) h))) r

  pub successor_permutes : Permutes (row_count t) (StandsIn t cs) (successor t cs)
  successor_permutes = record {
    small = λ a s. proper_given P a s.0;
    keeps = λ a s. successor_stands (row_count t) (λ a h. h) P.reverses (proper_turns P) a (successor t cs a) (successor_agrees a s);
    injects = λ a b s u e. successor_injective (row_count t) (λ a h. h) P.reverses (proper_turns P) a b (successor t cs b) s u
        (lands_to e (successor_agrees a s)) (successor_agrees b u);
  }

  pub rows_agree : (a : ℕ) → (Memᴰ a (standing_rows t cs) → StandsIn t cs a) × (StandsIn t cs a → Memᴰ a (standing_rows t cs))
  unfolding standing_rows
  rows_agree a =
      let ok = is_standing (outlines t cs) (reverse_of t) in (
        λ m. test_stands (outlines t cs) (reverse_of t) a (mem_below ok (row_count t) a m).1,
        λ s. below_mem ok (row_count t) a (proper_given P a s.0) (stands_test (outlines t cs) (reverse_of t) a s),
      )

pub rows_fresh : (t : Table) (cs : List ℕ) → Fresh (standing_rows t cs)
unfolding standing_rows
rows_fresh t cs = below_fresh (is_standing (outlines t cs) (reverse_of t)) (row_count t)

-- ---- rings

-- the lowest rows of the rings, ascending
abbrev pub starts : Table → List ℕ → List ℕ
starts t cs = ring_starts (row_count t) (is_standing (outlines t cs) (reverse_of t)) (successor t cs)

-- l is the cycle from r on, its lowest row
pub record RingFrom (t : Table) (cs : List ℕ) (l : List ℕ) (r : ℕ) : Type 0 where
  pub from : l ≡ ring (row_count t) (successor t cs) r
  pub lowest : (a : ℕ) → Memᴰ a l → r ≤ a
  pub cycle : (a : ℕ) → Memᴰ a l → (k : ℕ) × (a ≡ iter (successor t cs) k r)
  pub whole : (k : ℕ) → Memᴰ (iter (successor t cs) k r) l
  pub standing : (a : ℕ) → Memᴰ a l → StandsIn t cs a
  pub once : Fresh l

module _ {t : Table} {cs : List ℕ} (P : Proper t cs) where
  pub standing_permutes : Permutes (row_count t) (λ a. is_standing (outlines t cs) (reverse_of t) a ≡ true) (successor t cs)
  standing_permutes =
      let R = successor_permutes P in
      let from : (a : ℕ) → is_standing (outlines t cs) (reverse_of t) a ≡ true → StandsIn t cs a = test_stands (outlines t cs) (reverse_of t) in
      record {
        small = λ a u. R.small a (from a u);
        keeps = λ a u. stands_test (outlines t cs) (reverse_of t) (successor t cs a) (R.keeps a (from a u));
        injects = λ a b u v. R.injects a b (from a u) (from b v);
      }

  pub rings_agree : (l : List ℕ) → Memᴰ l (rings t cs) → (r : ℕ) × RingFrom t cs l r
  unfolding rings
  rings_agree l m = go (Memᴰ.of_map (ring (row_count t) (successor t cs)) (starts t cs) m)
    where
      go : (r : ℕ) × Memᴰ r (starts t cs) × (ring (row_count t) (successor t cs) r ≡ l) → (r : ℕ) × RingFrom t cs l r
      go (r, i, d) = (
        r,
        record {
          from = e;
          lowest = λ a j. let k = mem_ring standing_permutes r a u (rw e at j) in rw k.1 (starts_lowest standing_permutes r s k.0);
          cycle = λ a j. mem_ring standing_permutes r a u (rw e at j);
          whole = λ k. rw e (ring_mem standing_permutes r u k);
          standing = λ a j. let k = mem_ring standing_permutes r a u (rw e at j) in test_stands (outlines t cs) (reverse_of t) a (rw k.1 (iter_in standing_permutes k.0 r u));
          once = rw e (ring_fresh standing_permutes r u);
        },
      )
        where
          e : l ≡ ring (row_count t) (successor t cs) r
          e = sym d

          s : starts_ring (row_count t) (is_standing (outlines t cs) (reverse_of t)) (successor t cs) r ≡ true
          s = (mem_below (starts_ring (row_count t) (is_standing (outlines t cs) (reverse_of t)) (successor t cs)) (row_count t) r i).1

          u : is_standing (outlines t cs) (reverse_of t) r ≡ true
          u = starts_stand standing_permutes r s

  -- no ring is listed twice: the rings go by their lowest rows, each once
  pub starts_fresh : Fresh (starts t cs)
  starts_fresh = below_fresh (starts_ring (row_count t) (is_standing (outlines t cs) (reverse_of t)) (successor t cs)) (row_count t)

  -- EVERY STANDING ROW IS IN EXACTLY ONE RING
  pub row_ring : (a : ℕ) → StandsIn t cs a → (l : List ℕ) × Memᴰ l (rings t cs) × Memᴰ a l
  unfolding rings
  row_ring a s =
      let z = ring_with standing_permutes a (stands_test (outlines t cs) (reverse_of t) a s) in
      (ring (row_count t) (successor t cs) z.0, Memᴰ.map (ring (row_count t) (successor t cs)) z.1, z.2)

  pub row_ring_one : (a : ℕ) (l m : List ℕ) → Memᴰ l (rings t cs) → Memᴰ m (rings t cs) → Memᴰ a l → Memᴰ a m → l ≡ m
  unfolding rings
  row_ring_one a l m i j p q =
      let x = Memᴰ.of_map (ring (row_count t) (successor t cs)) (starts t cs) i in
      let y = Memᴰ.of_map (ring (row_count t) (successor t cs)) (starts t cs) j in
      sym x.2 ∙ ap (ring (row_count t) (successor t cs)) (ring_one standing_permutes x.0 y.0 a x.1 y.1 (rw x.2 p) (rw y.2 q)) ∙ y.2
