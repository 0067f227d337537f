-- THE PIGEONHOLE on lists of numbers.
--     fresh_within     different members of a list are at most as many as its members
--     fresh_length     different numbers below n are at most n
--     fresh_map        what an injective map makes of different numbers are different
--     one_to_one       what an injective map takes into a list is at most as much
-- Assumes nothing.
use mathlib.Core.Path.{◌≡◌, refl, sym, ◌∙◌, ap}
use mathlib.Core.Logic.{◌⊎◌, inl, inr, ◌≢◌}
use mathlib.Core.Bool.{true}
use mathlib.Core.List.Memᴰ
use mathlib.Core.List.{List, [], ◌∷◌, map, Memᴰ}
use Prim.Native.Nat.{ℕ, zero, suc, ◌≤◌, ◌<◌}
use native.Mathlib.Omega.{arith}
use lib.ListN.{length, length-append, length-map}
use Rattle.scope.specs.Lists.{below}
use Rattle.scope.proofs.Members.{Fresh, below_mem}

-- the list without the member at a place
without : {a : ℕ} {l : List ℕ} → Memᴰ a l → List ℕ
without (Memᴰ.head {xs = xs} e) = xs
without (Memᴰ.tail {x = x} m) = x ∷ without m

without_length : {a : ℕ} {l : List ℕ} (m : Memᴰ a l) → length l ≡ suc (length (without m))
unfolding without
without_length (Memᴰ.head e) = refl
without_length (Memᴰ.tail m) = ap suc (without_length m)

without_rest : {a b : ℕ} {l : List ℕ} (m : Memᴰ a l) → b ≢ a → Memᴰ b l → Memᴰ b (without m)
unfolding without
without_rest {b = b} (Memᴰ.head {x = x} {xs = xs} e) d i = go (Memᴰ.cases_cons i)
  where
    go : (b ≡ x) ⊎ Memᴰ b xs → Memᴰ b xs
    go (inl q) = absurd (d (q ∙ sym e))
    go (inr j) = j
without_rest {b = b} (Memᴰ.tail {x = x} {xs = xs} m) d i = go (λ j. without_rest m d j) (Memᴰ.cases_cons i)
  where
    go : (Memᴰ b xs → Memᴰ b (without m)) → (b ≡ x) ⊎ Memᴰ b xs → Memᴰ b (x ∷ without m)
    go ih (inl q) = Memᴰ.head q
    go ih (inr j) = Memᴰ.tail (ih j)

-- THE PIGEONHOLE
pub fresh_within : (l k : List ℕ) → Fresh l → ((a : ℕ) → Memᴰ a l → Memᴰ a k) → length l ≤ length k
fresh_within [] k f b = omega arith
fresh_within (x ∷ l) k f b =
    let m = b x (Memᴰ.head refl) in
    let h = fresh_within l (without m) f.1 (λ a i. without_rest m (λ (e : a ≡ x). f.0 (Memᴰ.cast (sym e) i)) (b a (Memᴰ.tail i))) in
    omega (arith, without_length m)

all_below : (n : ℕ) → length (below (λ a. true) n) ≡ n
unfolding below
all_below zero = refl
all_below (suc n) = let h = all_below n in let e = length-append (below (λ a. true) n) (n ∷ []) in omega arith

pub fresh_length : (n : ℕ) (l : List ℕ) → Fresh l → ((a : ℕ) → Memᴰ a l → a < n) → length l ≤ n
fresh_length n l f b = let h = fresh_within l (below (λ a. true) n) f (λ a i. below_mem (λ a. true) n a (b a i) refl) in omega (arith, all_below n)

module _ (f : ℕ → ℕ) where
  pub fresh_map : (l : List ℕ) → Fresh l → ((a b : ℕ) → Memᴰ a l → Memᴰ b l → f a ≡ f b → a ≡ b) → Fresh (map f l)
  fresh_map [] g inj = tt
  fresh_map (x ∷ l) g inj = (
    λ i. let r = Memᴰ.of_map f l i in g.0 (Memᴰ.cast (inj x r.0 (Memᴰ.head refl) (Memᴰ.tail r.1) (sym r.2)) r.1),
    fresh_map l g.1 (λ a b i j. inj a b (Memᴰ.tail i) (Memᴰ.tail j)),
  )

  pub one_to_one : (l k : List ℕ) → Fresh l → ((a : ℕ) → Memᴰ a l → Memᴰ (f a) k)
      → ((a b : ℕ) → Memᴰ a l → Memᴰ b l → f a ≡ f b → a ≡ b) → length l ≤ length k
  one_to_one l k g into inj =
      let h = fresh_within (map f l) k (fresh_map l g inj) (λ b i. let r = Memᴰ.of_map f l i in Memᴰ.cast (sym r.2) (into r.0 r.1)) in
      omega (arith, length-map l f)
