-- On a finite set a step lands: from the pigeonhole, a step that is injective and stays in a set of numbers below n meets its stops.
--     lands_total      TOTALITY: it lands, in at most n steps
--     follow_is        `follow` with enough fuel is where `Lands` lands
-- Assumes nothing.
use mathlib.Core.Path.{◌≡◌, refl, sym, subst}
use mathlib.Core.Logic.{◌⊎◌, inl, inr, ◌≢◌}
use mathlib.Core.Bool.{Bool, true, false}
use mathlib.Core.List.Memᴰ
use mathlib.Core.List.{List, [], ◌∷◌, Memᴰ}
use Prim.Native.Nat.{ℕ, zero, suc, ◌+◌, ◌≤◌, ◌<◌, suc-le-suc}
use native.Mathlib.Omega.{arith}
use lib.ListN.{length}
use Rattle.scope.specs.Lists.{follow}
use Rattle.scope.specs.Standing.{Lands, here, on}
use Rattle.scope.proofs.Members.{Fresh}
use Rattle.scope.proofs.Pigeonhole.{fresh_length}

-- how many steps a landing takes
unfoldable pub steps : {A : Type 0} {S : A → Type 0} {f : A → A} {x y : A} → Lands S f x y → ℕ
steps (here s) = 0
steps (on n r) = suc (steps r)

-- the way from x₀ to a place, with what was passed, the last first
data Trail (S : ℕ → Type 0) (f : ℕ → ℕ) (x₀ : ℕ) : ℕ → List ℕ → Type 0 where
  start : Trail S f x₀ x₀ []
  pass : {x : ℕ} {l : List ℕ} → (S x → ⊥) → Trail S f x₀ x l → Trail S f x₀ (f x) (x ∷ l)

-- f steps inside U wherever S does not stop it, and is injective there
pub record Steps (n : ℕ) (U S : ℕ → Type 0) (f : ℕ → ℕ) : Type 0 where
  pub below : (a : ℕ) → U a → a < n
  pub keeps : (a : ℕ) → U a → (S a → ⊥) → U (f a)
  pub injects : (a b : ℕ) → U a → (S a → ⊥) → U b → (S b → ⊥) → f a ≡ f b → a ≡ b

module _ (n : ℕ) (U S : ℕ → Type 0) (f : ℕ → ℕ) (st : Steps n U S f) (dec : (a : ℕ) → Dec (S a)) (x₀ : ℕ) (u₀ : U x₀) (first : (a : ℕ) → U a → (S a → ⊥) → f a ≢ x₀) where
  trail_in : {x : ℕ} {l : List ℕ} → Trail S f x₀ x l → U x
  trail_in start = u₀
  trail_in (pass {x = x} m t) = st.keeps x (trail_in t) m

  trail_all : {x w : ℕ} {l : List ℕ} → Trail S f x₀ x l → Memᴰ w l → U w × (S w → ⊥)
  trail_all start i = absurd (Memᴰ.not-nil i)
  trail_all {w = w} (pass {x = x} {l = l} m t) i = go (λ j. trail_all t j) (Memᴰ.cases_cons i)
    where
      go : (Memᴰ w l → U w × (S w → ⊥)) → (w ≡ x) ⊎ Memᴰ w l → U w × (S w → ⊥)
      go ih (inl e) = subst (λ (a : ℕ). U a × (S a → ⊥)) (sym e) (trail_in t, m)
      go ih (inr j) = ih j

  origin : {x w : ℕ} {l : List ℕ} → Trail S f x₀ x l → Memᴰ w (x ∷ l) → (w ≡ x₀) ⊎ ((v : ℕ) × Memᴰ v l × (f v ≡ w))
  origin {w = w} start i = go (Memᴰ.cases_cons i)
    where
      go : (w ≡ x₀) ⊎ Memᴰ w [] → (w ≡ x₀) ⊎ ((v : ℕ) × Memᴰ v [] × (f v ≡ w))
      go (inl e) = inl e
      go (inr j) = absurd (Memᴰ.not-nil j)
  origin {w = w} (pass {x = x} {l = l} m t) i = go (λ j. origin t j) (Memᴰ.cases_cons i)
    where
      up : (w ≡ x₀) ⊎ ((v : ℕ) × Memᴰ v l × (f v ≡ w)) → (w ≡ x₀) ⊎ ((v : ℕ) × Memᴰ v (x ∷ l) × (f v ≡ w))
      up (inl e) = inl e
      up (inr (v, j, e)) = inr (v, Memᴰ.tail j, e)

      go : (Memᴰ w (x ∷ l) → (w ≡ x₀) ⊎ ((v : ℕ) × Memᴰ v l × (f v ≡ w)))
          → (w ≡ f x) ⊎ Memᴰ w (x ∷ l) → (w ≡ x₀) ⊎ ((v : ℕ) × Memᴰ v (x ∷ l) × (f v ≡ w))
      go ih (inl e) = inr (x, Memᴰ.head refl, sym e)
      go ih (inr j) = up (ih j)

  trail_fresh : {x : ℕ} {l : List ℕ} → Trail S f x₀ x l → Fresh (x ∷ l)
  trail_fresh start = (Memᴰ.not-nil, tt)
  trail_fresh (pass {x = x} {l = l} m t) = (λ i. go (trail_fresh t) (origin t i), trail_fresh t)
    where
      go : Fresh (x ∷ l) → (f x ≡ x₀) ⊎ ((v : ℕ) × Memᴰ v l × (f v ≡ f x)) → ⊥
      go fr (inl e) = first x (trail_in t) m e
      go fr (inr (v, j, e)) =
          let q = trail_all t j in
          fr.0 (Memᴰ.cast (st.injects x v (trail_in t) m q.0 q.1 (sym e)) j)

  walk : (k : ℕ) {x : ℕ} {l : List ℕ} → Trail S f x₀ x l → n ≤ length l + k → (y : ℕ) × (r : Lands S f x y) × (steps r ≤ k)
  unfolding steps
  walk zero {x} {l} t h = absurd (full (fresh_length n (x ∷ l) (trail_fresh t) (λ a i. small (Memᴰ.cases_cons i))))
    where
      small : {a : ℕ} → (a ≡ x) ⊎ Memᴰ a l → a < n
      small (inl e) = let h : x < n = st.below x (trail_in t) in omega arith
      small {a} (inr i) = st.below a (trail_all t i).0

      full : suc (length l) ≤ n → ⊥
      full g = omega arith
  walk (suc k) {x} {l} t h = go (dec x) (λ m. walk k (pass m t) (omega arith))
    where
      go : Dec (S x) → ((S x → ⊥) → (y : ℕ) × (r : Lands S f (f x) y) × (steps r ≤ k)) → (y : ℕ) × (r : Lands S f x y) × (steps r ≤ suc k)
      go (yes s) next = (x, here s, omega arith)
      go (no m) next = let r = next m in (r.0, on m r.1, suc-le-suc r.2)

  -- TOTALITY: it lands, in at most n steps
  pub lands_total : (y : ℕ) × (r : Lands S f x₀ y) × (steps r ≤ n)
  lands_total = walk n start (omega arith)

-- ---- the same as a computation with fuel

failed : (b : Bool) → (b ≡ true → ⊥) → b ≡ false
failed true n = absurd (n refl)
failed false n = refl

pub follow_is : (stop : ℕ → Bool) {f : ℕ → ℕ} {x y : ℕ} (k : ℕ) (r : Lands (λ a. stop a ≡ true) f x y) → steps r ≤ k → follow stop f k x ≡ y
unfolding follow steps
follow_is stop zero (here s) h = refl
follow_is stop (suc k) (here {x = x} s) h = rw (s, follow)
follow_is stop zero (on n r) h = absurd (omega arith)
follow_is stop (suc k) (on {x = x} n r) h = rw (failed (stop x) n, follow) (follow_is stop k r (omega arith))
