-- Laws of `Lands`: a step followed until a stop. The ring successor, the root of a parent forest and the closing of a ring are of this form.
--     lands_unique, lands_stop, lands_stay     where it lands is one place, a stop; from a stop it stays
--     lands_same                               the stops may be put in another way
--     stage_from                               STAGING: to return to a smaller set of stops through the first return to a larger one
--     lands_map                                a map of steps and stops takes landings to landings
-- Assumes nothing.
use mathlib.Core.Path.{◌≡◌, refl, sym, subst}
use Rattle.scope.specs.Standing.{Lands, here, on}

module _ {A : Type 0} where
  -- where it lands is a stop
  pub lands_stop : {S : A → Type 0} {f : A → A} {x y : A} → Lands S f x y → S y
  lands_stop (here s) = s
  lands_stop (on n r) = lands_stop r

  -- from a stop it stays
  pub lands_stay : {S : A → Type 0} {f : A → A} {x y : A} → S x → Lands S f x y → y ≡ x
  lands_stay s (here t) = refl
  lands_stay s (on n r) = absurd (n s)

  -- from no stop it steps
  pub lands_step : {S : A → Type 0} {f : A → A} {x y : A} → (S x → ⊥) → Lands S f x y → Lands S f (f x) y
  lands_step n (here t) = absurd (n t)
  lands_step n (on m r) = r

  pub lands_unique : {S : A → Type 0} {f : A → A} {x y z : A} → Lands S f x y → Lands S f x z → y ≡ z
  lands_unique (here s) q = sym (lands_stay s q)
  lands_unique (on n r) q = lands_unique r (lands_step n q)

  pub lands_from : {S : A → Type 0} {f : A → A} {x x' y : A} → x ≡ x' → Lands S f x y → Lands S f x' y
  lands_from {S} {f} {y = y} e r = subst (λ (a : A). Lands S f a y) e r

  pub lands_to : {S : A → Type 0} {f : A → A} {x y y' : A} → y ≡ y' → Lands S f x y → Lands S f x y'
  lands_to {S} {f} {x = x} e r = subst (λ (a : A). Lands S f x a) e r

  -- the stops may be put in another way
  unfoldable pub lands_same : {S S' : A → Type 0} {f : A → A} {x y : A} → ((a : A) → S a → S' a) → ((a : A) → S' a → S a) → Lands S f x y → Lands S' f x y
  lands_same p q (here {x = x} s) = here (p x s)
  lands_same p q (on {x = x} n r) = on (λ t. n (q x t)) (lands_same p q r)

  -- fewer stops: go on from where the larger set was met
  pub lands_on : {S₁ S₂ : A → Type 0} {f : A → A} → ((a : A) → S₂ a → S₁ a) → {x z y : A} → Lands S₁ f x z → Lands S₂ f z y → Lands S₂ f x y
  lands_on sub (here s) q = q
  lands_on sub (on n r) q = on (λ s. n (sub _ s)) (lands_on sub r q)

  -- INDUCING IN STAGES. g is the first return of f to S₁, where S₂ does not stop it.
  pub stage : {S₁ S₂ : A → Type 0} {f g : A → A} → ((a : A) → S₂ a → S₁ a) → ((a : A) → S₁ a → (S₂ a → ⊥) → Lands S₁ f (f a) (g a))
      → {z y : A} → S₁ z → Lands S₂ g z y → Lands S₂ f z y
  stage sub ret s (here t) = here t
  stage sub ret s (on {x = x} n r) = on n (lands_on sub (ret x s n) (stage sub ret (lands_stop (ret x s n)) r))

  -- the same from a point before S₁
  pub stage_from : {S₁ S₂ : A → Type 0} {f g : A → A} → ((a : A) → S₂ a → S₁ a) → ((a : A) → S₁ a → (S₂ a → ⊥) → Lands S₁ f (f a) (g a))
      → {x z y : A} → Lands S₁ f x z → Lands S₂ g z y → Lands S₂ f x y
  stage_from sub ret p q = lands_on sub p (stage sub ret (lands_stop p) q)

-- A map h that takes stops to stops and steps to steps, on an invariant I of the walk, takes landings to landings.
pub lands_map : {A B : Type 0} {S : A → Type 0} {f : A → A} {S' : B → Type 0} {f' : B → B} (h : A → B) (I : A → Type 0)
    → ((a : A) → I a → S a → S' (h a)) → ((a : A) → I a → S' (h a) → S a)
    → ((a : A) → I a → (S a → ⊥) → I (f a)) → ((a : A) → I a → (S a → ⊥) → h (f a) ≡ f' (h a))
    → {x y : A} → I x → Lands S f x y → Lands S' f' (h x) (h y)
lands_map h I to back keep step i (here {x = x} s) = here (to x i s)
lands_map h I to back keep step i (on {x = x} n r) =
    on (λ t. n (back x i t)) (lands_from (step x i n) (lands_map h I to back keep step (keep x i n) r))
