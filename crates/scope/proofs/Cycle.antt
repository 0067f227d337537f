-- Rings as cycles: how often a step is made until it is back.
--     iter f k x            f made k times               orbit f k x     x, f x, .. : k of them
--     Period f x p          p is the least count above 0 after which f is back at x
--     Permutes n U f        on the set U of numbers below n, f stays in U and is injective
--     period                then every member has its period, which is at most n
--     orbit_fresh           and no member stands twice in the orbit of a period
--     around, leads_back    every place of a ring is one of its first p; from each the way leads back to the start
--     iter_same             steps that agree along a ring have the ring in common; `period_same`: and its period
-- Assumes nothing.
use mathlib.Core.Path.{◌≡◌, refl, sym, ◌∙◌, ap, subst}
use mathlib.Core.Logic.{◌⊎◌, inl, inr, ◌≢◌}
use mathlib.Core.List.Memᴰ
use mathlib.Core.List.{List, [], ◌∷◌, ◌++◌, Memᴰ}
use Prim.Native.Nat.{ℕ, zero, suc, ◌+◌, ◌-◌, ◌≤◌, ◌<◌}
use native.Mathlib.Decide.{ℕ_discrete}
use native.Mathlib.Omega.{arith}
use lib.ListN.{length}
use Rattle.scope.specs.Lists.{at}
use Rattle.scope.specs.Standing.{Lands, here, on}
use Rattle.scope.proofs.Lands.{lands_stop}
use Rattle.scope.proofs.Members.{cases, Fresh}
use Rattle.scope.proofs.Pigeonhole.{fresh_length}
use Rattle.scope.proofs.Finite.{Steps, steps, lands_total}

-- ---- a step made k times

unfoldable pub iter : (ℕ → ℕ) → ℕ → ℕ → ℕ
iter f zero x = x
iter f (suc k) x = iter f k (f x)

pub iter_zero : (f : ℕ → ℕ) (x : ℕ) → iter f 0 x ≡ x
unfolding iter
iter_zero f x = refl

pub iter_suc : (f : ℕ → ℕ) (k x : ℕ) → iter f (suc k) x ≡ iter f k (f x)
unfolding iter
iter_suc f k x = refl

-- the last step taken apart
pub iter_last : (f : ℕ → ℕ) (k x : ℕ) → iter f (suc k) x ≡ f (iter f k x)
unfolding iter
iter_last f zero x = refl
iter_last f (suc k) x = iter_last f k (f x)

pub iter_add : (f : ℕ → ℕ) (a b x : ℕ) → iter f (a + b) x ≡ iter f a (iter f b x)
iter_add f a zero x = ap (λ (m : ℕ). iter f m x) (let z : a + 0 ≡ a = omega arith in z) ∙ ap (iter f a) (sym (iter_zero f x))
iter_add f a (suc b) x =
    ap (λ (m : ℕ). iter f m x) (let z : a + suc b ≡ suc (a + b) = omega arith in z)
    ∙ iter_suc f (a + b) x ∙ iter_add f a b (f x) ∙ ap (iter f a) (sym (iter_suc f b x))

-- ---- the places passed

unfoldable pub orbit : (ℕ → ℕ) → ℕ → ℕ → List ℕ
orbit f zero x = []
orbit f (suc k) x = x ∷ orbit f k (f x)

pub orbit_length : (f : ℕ → ℕ) (k x : ℕ) → length (orbit f k x) ≡ k
unfolding orbit
orbit_length f zero x = refl
orbit_length f (suc k) x = ap suc (orbit_length f k (f x))

pub orbit_at : (f : ℕ → ℕ) (k x i : ℕ) → i < k → at (orbit f k x) i ≡ iter f i x
unfolding orbit iter
orbit_at f zero x i h = absurd (omega arith)
orbit_at f (suc k) x zero h = refl
orbit_at f (suc k) x (suc i) h = orbit_at f k (f x) i (omega arith)

-- one more at the end
pub orbit_last : (f : ℕ → ℕ) (k x : ℕ) → orbit f (suc k) x ≡ orbit f k x ++ (iter f k x ∷ [])
unfolding orbit iter
orbit_last f zero x = refl
orbit_last f (suc k) x = ap (λ (l : List ℕ). x ∷ l) (orbit_last f k (f x))

pub orbit_mem : (f : ℕ → ℕ) (k x i : ℕ) → i < k → Memᴰ (iter f i x) (orbit f k x)
unfolding orbit iter
orbit_mem f zero x i h = absurd (omega arith)
orbit_mem f (suc k) x zero h = Memᴰ.head refl
orbit_mem f (suc k) x (suc i) h = Memᴰ.tail (orbit_mem f k (f x) i (omega arith))

pub mem_orbit : (f : ℕ → ℕ) (k x a : ℕ) → Memᴰ a (orbit f k x) → (i : ℕ) × (i < k) × (a ≡ iter f i x)
unfolding orbit iter
mem_orbit f zero x a m = absurd (Memᴰ.not-nil m)
mem_orbit f (suc k) x a m = go (λ i. mem_orbit f k (f x) a i) (Memᴰ.cases_cons m)
  where
    go : (Memᴰ a (orbit f k (f x)) → (i : ℕ) × (i < k) × (a ≡ iter f i (f x))) → (a ≡ x) ⊎ Memᴰ a (orbit f k (f x)) → (i : ℕ) × (i < suc k) × (a ≡ iter f i x)
    go ih (inl e) = (0, omega arith, e)
    go ih (inr i) = let r = ih i in (suc r.0, omega (arith, r.1), r.2)

-- ---- back at the start

pub record Period (f : ℕ → ℕ) (x p : ℕ) : Type 0 where
  pub some : 0 < p
  pub back : iter f p x ≡ x
  pub least : (k : ℕ) → 0 < k → k < p → iter f k x ≢ x

-- every place of a ring is one of its first p
pub around : {f : ℕ → ℕ} {x p : ℕ} → Period f x p → (k : ℕ) → (j : ℕ) × (j < p) × (iter f k x ≡ iter f j x)
around P zero = (0, P.some, refl)
around {f} {x} {p} P (suc k) = go (around P k)
  where
    go : (j : ℕ) × (j < p) × (iter f k x ≡ iter f j x) → (j : ℕ) × (j < p) × (iter f (suc k) x ≡ iter f j x)
    go (j, h, e) = cases (suc j) p
        (λ q. (0, P.some, next ∙ ap (λ (m : ℕ). iter f m x) q ∙ P.back ∙ sym (iter_zero f x)))
        (λ d. (suc j, omega arith, next))
      where
        next : iter f (suc k) x ≡ iter f (suc j) x
        next = iter_last f k x ∙ ap f e ∙ sym (iter_last f j x)

-- from every place of a ring the way leads back to its start
pub leads_back : {f : ℕ → ℕ} {x p : ℕ} → Period f x p → (k : ℕ) → (m : ℕ) × (iter f m (iter f k x) ≡ x)
leads_back {f} {x} {p} P k = go (around P k)
  where
    go : (j : ℕ) × (j < p) × (iter f k x ≡ iter f j x) → (m : ℕ) × (iter f m (iter f k x) ≡ x)
    go (j, h, e) =
        (p - j, ap (iter f (p - j)) e ∙ sym (iter_add f (p - j) j x) ∙ ap (λ (m : ℕ). iter f m x) (let z : p - j + j ≡ p = omega arith in z) ∙ P.back)

-- ---- two steps that agree along a ring

module _ (f g : ℕ → ℕ) (x : ℕ) (agree : (k : ℕ) → g (iter f k x) ≡ f (iter f k x)) where
  pub iter_same : (k : ℕ) → iter g k x ≡ iter f k x
  iter_same zero = iter_zero g x ∙ sym (iter_zero f x)
  iter_same (suc k) = iter_last g k x ∙ ap g (iter_same k) ∙ agree k ∙ sym (iter_last f k x)

  pub period_same : {p : ℕ} → Period f x p → Period g x p
  period_same {p} P = record {
    some = P.some;
    back = iter_same p ∙ P.back;
    least = λ k h l q. P.least k h l (sym (iter_same k) ∙ q);
  }

-- ---- on a finite set that f permutes

pub record Permutes (n : ℕ) (U : ℕ → Type 0) (f : ℕ → ℕ) : Type 0 where
  pub small : (a : ℕ) → U a → a < n
  pub keeps : (a : ℕ) → U a → U (f a)
  pub injects : (a b : ℕ) → U a → U b → f a ≡ f b → a ≡ b

lands_count : {S : ℕ → Type 0} {f : ℕ → ℕ} {x y : ℕ} (r : Lands S f x y) → (iter f (steps r) x ≡ y) × ((j : ℕ) → j < steps r → S (iter f j x) → ⊥)
unfolding iter steps
lands_count (here s) = (refl, λ j h. absurd (omega arith))
lands_count {S} {f} (on {x = x} n r) = let t = lands_count r in (t.0, go (steps r) t.1)
  where
    go : (k : ℕ) → ((j : ℕ) → j < k → S (iter f j (f x)) → ⊥) → (j : ℕ) → j < suc k → S (iter f j x) → ⊥
    go k ih zero h s = n s
    go k ih (suc j) h s = ih j (omega arith) s

module _ {n : ℕ} {U : ℕ → Type 0} {f : ℕ → ℕ} (P : Permutes n U f) where
  pub iter_in : (k x : ℕ) → U x → U (iter f k x)
  unfolding iter
  iter_in zero x u = u
  iter_in (suc k) x u = iter_in k (f x) (P.keeps x u)

  -- equal places of an orbit: the difference of their counts leads back
  pub iter_cancel : (i k x : ℕ) → U x → iter f (i + k) x ≡ iter f i x → iter f k x ≡ x
  iter_cancel zero k x u e = rw (let z : 0 + k ≡ k = omega arith in z) at (e ∙ iter_zero f x)
  iter_cancel (suc i) k x u e = iter_cancel i k x u (P.injects (iter f (i + k) x) (iter f i x) (iter_in (i + k) x u) (iter_in i x u)
      (sym (iter_last f (i + k) x) ∙ ap (λ (m : ℕ). iter f m x) (let z : suc (i + k) ≡ suc i + k = omega arith in z) ∙ e ∙ iter_last f i x))

  -- the places of a period are different
  pub period_apart : (x p i j : ℕ) → U x → Period f x p → i < j → j < p → iter f i x ≢ iter f j x
  period_apart x p i j u Q h l e =
      Q.least (j - i) (omega arith) (omega arith)
      (iter_cancel i (j - i) x u (ap (λ (m : ℕ). iter f m x) (let z : i + (j - i) ≡ j = omega arith in z) ∙ sym e))

  orbit_apart : (k x : ℕ) → ((i j : ℕ) → i < j → j < k → iter f i x ≢ iter f j x) → Fresh (orbit f k x)
  unfolding orbit
  orbit_apart zero x d = tt
  orbit_apart (suc k) x d = (
    λ m. let r = mem_orbit f k (f x) x m in d 0 (suc r.0) (omega arith) (omega (arith, r.1)) (iter_zero f x ∙ r.2 ∙ sym (iter_suc f r.0 x)),
    orbit_apart k (f x) (λ i j h l e. d (suc i) (suc j) (omega arith) (omega arith) (iter_suc f i x ∙ e ∙ sym (iter_suc f j x))),
  )

  pub orbit_fresh : (x p : ℕ) → U x → Period f x p → Fresh (orbit f p x)
  orbit_fresh x p u Q = orbit_apart p x (λ i j h l. period_apart x p i j u Q h l)

  pub period_most : (x p : ℕ) → U x → Period f x p → p ≤ n
  period_most x p u Q =
      let h = fresh_length n (orbit f p x) (orbit_fresh x p u Q)
      (λ a m. let r = mem_orbit f p x a m in subst (λ (w : ℕ). w < n) (sym r.2) (P.small (iter f r.0 x) (iter_in r.0 x u))) in
      omega (arith, orbit_length f p x)

  pub period : (x : ℕ) → U x → (p : ℕ) × Period f x p
  period x u =
      let st : Steps n U (λ a. a ≡ x) f = record { below = P.small; keeps = λ a v m. P.keeps a v; injects = λ a b v m w k e. P.injects a b v w e } in
      let r = lands_total n U (λ a. a ≡ x) f st (λ a. ℕ_discrete a x) (f x) (P.keeps x u) (λ a v m e. m (P.injects a x v u e)) in
      go (steps r.1) ((lands_count r.1).0 ∙ lands_stop r.1) (lands_count r.1).1
    where
      least : (k : ℕ) → ((j : ℕ) → j < k → iter f j (f x) ≡ x → ⊥) → (j : ℕ) → 0 < j → j < suc k → iter f j x ≢ x
      least k h zero l m = absurd (omega arith)
      least k h (suc j) l m = λ e. h j (omega arith) (sym (iter_suc f j x) ∙ e)

      go : (k : ℕ) → iter f k (f x) ≡ x → ((j : ℕ) → j < k → iter f j (f x) ≡ x → ⊥) → (p : ℕ) × Period f x p
      go k e h = (suc k, record { some = omega arith; back = iter_suc f k x ∙ e; least = least k h })
