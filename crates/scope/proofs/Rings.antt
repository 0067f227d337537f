-- Rings as lists, over any row count n, test of standing and successor f that permutes the standing rows.
--     ring_orbit         the ring of a row is its orbit, one period long
--     starts_true        `starts_ring` holds of a standing row that is the lowest of its ring; `starts_lowest`: and of no other
--     ring_mem           the members of a ring are what f leads to; `ring_fresh`: each once
--     ring_with          every standing row is in the ring of some start
--     ring_one           and of one only
--     ring_same          steps that agree along a ring have the ring in common
-- Assumes nothing.
use mathlib.Core.Path.{◌≡◌, refl, sym, ◌∙◌, ap, subst}
use mathlib.Core.Logic.{◌⊎◌, inl, inr, ⊎_elim, ◌≢◌}
use mathlib.Core.Bool.{Bool, true, false}
use mathlib.Core.List.Memᴰ
use mathlib.Core.List.{List, [], ◌∷◌, Memᴰ}
use Prim.Native.Nat.{ℕ, zero, suc, ◌+◌, ◌≤◌, ◌<◌}
use native.Mathlib.Omega.{arith}
use borrow.Author.Tests.{leb-true, leb-false, le-leb, eq-eqb, ne_eqb}
use lib.Dec.{leb}
use Rattle.scope.specs.Afresh.{trail, ring, none_below, starts_ring, ring_starts}
use Rattle.scope.proofs.Tests.{either, clash, and_left, and_right, and_both}
use Rattle.scope.proofs.Members.{Fresh, below_mem, mem_below}
use Rattle.scope.proofs.Cycle.{iter, iter_zero, iter_suc, iter_add, orbit, orbit_mem, mem_orbit, orbit_fresh, Period, Permutes, period, period_most, around, leads_back, iter_in, period_same}

-- ---- the ring as an orbit

trail_stop : (f : ℕ → ℕ) (start k x : ℕ) → x ≡ start → trail f start k x ≡ []
unfolding trail
trail_stop f start zero x e = refl
trail_stop f start (suc k) x e = rw (eq-eqb x start e, trail)

trail_on : (f : ℕ → ℕ) (start k x : ℕ) → x ≢ start → trail f start (suc k) x ≡ x ∷ trail f start k (f x)
unfolding trail
trail_on f start k x e = rw (ne_eqb x start e, trail)

-- with q steps left to the start and fuel for them
trail_orbit : (f : ℕ → ℕ) (start q k x : ℕ) → q ≤ k → iter f q x ≡ start → ((j : ℕ) → j < q → iter f j x ≢ start) → trail f start k x ≡ orbit f q x
unfolding orbit
trail_orbit f start zero k x h e m = trail_stop f start k x (sym (iter_zero f x) ∙ e)
trail_orbit f start (suc q) zero x h e m = absurd (omega arith)
trail_orbit f start (suc q) (suc k) x h e m =
    trail_on f start k x (λ z. m 0 (omega arith) (iter_zero f x ∙ z))
    ∙ ap (λ (l : List ℕ). x ∷ l) (trail_orbit f start q k (f x) (omega arith) (sym (iter_suc f q x) ∙ e) (λ j l z. m (suc j) (omega arith) (iter_suc f j x ∙ z)))

pub ring_orbit : (n : ℕ) (f : ℕ → ℕ) (r p : ℕ) → Period f r p → p ≤ suc n → ring n f r ≡ orbit f p r
unfolding ring orbit
ring_orbit n f r zero P h = let z = P.some in absurd (omega arith)
ring_orbit n f r (suc q) P h =
    ap (λ (l : List ℕ). r ∷ l) (trail_orbit f r q n (f r) (omega arith) (sym (iter_suc f q r) ∙ P.back)
    (λ j l e. P.least (suc j) (omega arith) (omega arith) (iter_suc f j r ∙ e)))

orbit_same : (f g : ℕ → ℕ) (p x : ℕ) → ((k : ℕ) → g (iter f k x) ≡ f (iter f k x)) → orbit g p x ≡ orbit f p x
unfolding orbit iter
orbit_same f g zero x e = refl
orbit_same f g (suc p) x e = ap (λ (l : List ℕ). x ∷ l) (ap (orbit g p) (e 0) ∙ orbit_same f g p (f x) (λ k. e (suc k)))

-- ---- the lowest row

-- no row of the orbit is below r, or one is
none_orbit : (f : ℕ → ℕ) (r q x : ℕ) → ((j : ℕ) → j < q → r ≤ iter f j x) → none_below r (orbit f q x) ≡ true
unfolding none_below orbit
none_orbit f r zero x h = refl
none_orbit f r (suc q) x h =
    and_both (leb r x) (none_below r (orbit f q (f x))) (le-leb r x (let z = h 0 (omega arith) in let e = iter_zero f x in omega arith))
    (none_orbit f r q (f x) (λ j l. subst (λ (a : ℕ). r ≤ a) (iter_suc f j x) (h (suc j) (omega arith))))

orbit_none : (f : ℕ → ℕ) (r q x : ℕ) → none_below r (orbit f q x) ≡ true → (j : ℕ) → j < q → r ≤ iter f j x
unfolding none_below orbit
orbit_none f r zero x e j l = absurd (omega arith)
orbit_none f r (suc q) x e zero l = let z = leb-true r x (and_left (leb r x) (none_below r (orbit f q (f x))) e) in let i = iter_zero f x in omega arith
orbit_none f r (suc q) x e (suc j) l =
    subst (λ (a : ℕ). r ≤ a) (sym (iter_suc f j x)) (orbit_none f r q (f x) (and_right (leb r x) (none_below r (orbit f q (f x))) e) j (omega arith))

orbit_lower : (f : ℕ → ℕ) (r q x : ℕ) → none_below r (orbit f q x) ≡ false → (j : ℕ) × (iter f j x < r)
unfolding none_below orbit
orbit_lower f r zero x e = absurd (clash refl e)
orbit_lower f r (suc q) x e =
    ⊎_elim
    (λ (t : leb r x ≡ true). let z = orbit_lower f r q (f x) (rw t at e) in (suc z.0, subst (λ (a : ℕ). a < r) (sym (iter_suc f z.0 x)) z.1))
    (λ (t : leb r x ≡ false). (0, subst (λ (a : ℕ). a < r) (sym (iter_zero f x)) (leb-false r x t)))
    (either (leb r x))

module _ {n : ℕ} {st : ℕ → Bool} {f : ℕ → ℕ} (R : Permutes n (λ a. st a ≡ true) f) where
  ring_is : (r : ℕ) → st r ≡ true → (p : ℕ) × Period f r p × (ring n f r ≡ orbit f p r)
  ring_is r u =
      let q = period R r u in
      let h = period_most R r q.0 u q.1 in
      (q.0, q.1, ring_orbit n f r q.0 q.1 (omega arith))

  pub ring_mem : (r : ℕ) → st r ≡ true → (k : ℕ) → Memᴰ (iter f k r) (ring n f r)
  ring_mem r u k =
      let q = ring_is r u in
      let j = around q.1 k in
      rw (q.2, j.2) (orbit_mem f q.0 r j.0 j.1)

  pub mem_ring : (r a : ℕ) → st r ≡ true → Memᴰ a (ring n f r) → (k : ℕ) × (a ≡ iter f k r)
  mem_ring r a u m = let q = ring_is r u in let i = mem_orbit f q.0 r a (rw q.2 at m) in (i.0, i.2)

  pub ring_fresh : (r : ℕ) → st r ≡ true → Fresh (ring n f r)
  ring_fresh r u = let q = ring_is r u in rw q.2 (orbit_fresh R r q.0 u q.1)

  pub starts_true : (r : ℕ) → st r ≡ true → ((k : ℕ) → r ≤ iter f k r) → starts_ring n st f r ≡ true
  unfolding starts_ring
  starts_true r u h =
      let q = ring_is r u in
      and_both (st r) (none_below r (ring n f r)) u (ap (none_below r) q.2 ∙ none_orbit f r q.0 r (λ j l. h j))

  pub starts_stand : (r : ℕ) → starts_ring n st f r ≡ true → st r ≡ true
  unfolding starts_ring
  starts_stand r e = and_left (st r) (none_below r (ring n f r)) e

  pub starts_lowest : (r : ℕ) → starts_ring n st f r ≡ true → (k : ℕ) → r ≤ iter f k r
  unfolding starts_ring
  starts_lowest r e k =
      let q = ring_is r (starts_stand r e) in
      let j = around q.1 k in
      rw j.2 (orbit_none f r q.0 r (sym (ap (none_below r) q.2) ∙ and_right (st r) (none_below r (ring n f r)) e) j.0 j.1)

  -- a start, or a lower row in the ring
  start_or_lower : (a : ℕ) → st a ≡ true → (starts_ring n st f a ≡ true) ⊎ ((k : ℕ) × (iter f k a < a))
  unfolding starts_ring
  start_or_lower a u = ⊎_elim
      (λ (t : none_below a (ring n f a) ≡ true). inl (and_both (st a) (none_below a (ring n f a)) u t))
      (λ (t : none_below a (ring n f a) ≡ false). let q = ring_is a u in inr (orbit_lower f a q.0 a (sym (ap (none_below a) q.2) ∙ t)))
      (either (none_below a (ring n f a)))

  -- down to the lowest, with the way back
  descend : (b a : ℕ) → a < b → st a ≡ true → (r k : ℕ) × (starts_ring n st f r ≡ true) × (a ≡ iter f k r)
  descend zero a h u = absurd (omega arith)
  descend (suc b) a h u = go (start_or_lower a u) (λ k l. descend b (iter f k a) (omega arith) (iter_in R k a u))
    where
      go : (starts_ring n st f a ≡ true) ⊎ ((k : ℕ) × (iter f k a < a))
          → ((k : ℕ) → iter f k a < a → (r j : ℕ) × (starts_ring n st f r ≡ true) × (iter f k a ≡ iter f j r))
          → (r k : ℕ) × (starts_ring n st f r ≡ true) × (a ≡ iter f k r)
      go (inl s) ih = (a, 0, s, sym (iter_zero f a))
      go (inr (k, l)) ih =
          let z = ih k l in
          let m = leads_back (period R a u).1 k in
          (z.0, m.0 + z.1, z.2, sym m.1 ∙ ap (iter f m.0) z.3 ∙ sym (iter_add f m.0 z.1 z.0))

  -- EVERY STANDING ROW IS IN ONE RING
  pub ring_with : (a : ℕ) → st a ≡ true → (r : ℕ) × Memᴰ r (ring_starts n st f) × Memᴰ a (ring n f r)
  ring_with a u =
      let z = descend (suc a) a (omega arith) u in
      let v = starts_stand z.0 z.2 in
      (z.0, below_mem (starts_ring n st f) n z.0 (R.small z.0 v) z.2, Memᴰ.cast z.3 (ring_mem z.0 v z.1))

  lower_start : (r s a : ℕ) → starts_ring n st f r ≡ true → starts_ring n st f s ≡ true → Memᴰ a (ring n f r) → Memᴰ a (ring n f s) → r ≤ s
  lower_start r s a p q i j =
      let x = mem_ring r a (starts_stand r p) i in
      let y = mem_ring s a (starts_stand s q) j in
      let w = leads_back (period R s (starts_stand s q)).1 y.0 in
      let e : iter f (w.0 + x.0) r ≡ s = iter_add f w.0 x.0 r ∙ ap (iter f w.0) (sym x.1 ∙ y.1) ∙ w.1 in
      subst (λ (z : ℕ). r ≤ z) e (starts_lowest r p (w.0 + x.0))

  pub ring_one : (r s a : ℕ) → Memᴰ r (ring_starts n st f) → Memᴰ s (ring_starts n st f) → Memᴰ a (ring n f r) → Memᴰ a (ring n f s) → r ≡ s
  ring_one r s a p q i j =
      let u = (mem_below (starts_ring n st f) n r p).1 in
      let v = (mem_below (starts_ring n st f) n s q).1 in
      let h = lower_start r s a u v i j in
      let k = lower_start s r a v u j i in
      omega arith

  -- a step that agrees along the ring
  pub ring_same : (g : ℕ → ℕ) (r : ℕ) → st r ≡ true → ((k : ℕ) → g (iter f k r) ≡ f (iter f k r)) → ring n g r ≡ ring n f r
  ring_same g r u e =
      let q = period R r u in
      let h = period_most R r q.0 u q.1 in
      ring_orbit n g r q.0 (period_same f g r e q.1) (omega arith) ∙ orbit_same f g q.0 r e ∙ sym (ring_orbit n f r q.0 q.1 (omega arith))
