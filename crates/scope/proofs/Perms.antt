-- Lists with the same elements in some order (`Perm`, Sorted): what they share.
--     perm_sym, perm_map       the other way round; under a map
--     perm_in, perm_fresh      the same members; no member twice
--     perm_keep                as many are kept of both
--     fresh_append             two lists with no member twice and none in common, one after the other
-- Assumes nothing.
use Prim.Native.Nat.{ℕ, suc}
use mathlib.Core.Path.{◌≡◌, refl, sym, ◌∙◌, ap}
use mathlib.Core.Logic.{◌⊎◌, inl, inr, ⊎_elim}
use mathlib.Core.Bool.{Bool, true, false, cond}
use mathlib.Core.List.Memᴰ
use mathlib.Core.List.{List, [], ◌∷◌, ◌++◌, map, Memᴰ}
use lib.ListN.{length}
use Rattle.scope.specs.Lists.{keep}
use Rattle.scope.proofs.Tests.{either}
use Rattle.scope.proofs.Members.{Fresh}
use Rattle.scope.proofs.Sorted.{Perm, none, skip, swap, both}

pub perm_sym : {A : Type 0} {l k : List A} → Perm l k → Perm k l
perm_sym none = none
perm_sym (skip p) = skip (perm_sym p)
perm_sym swap = swap
perm_sym (both p q) = both (perm_sym q) (perm_sym p)

pub perm_map : {A B : Type 0} (f : A → B) {l k : List A} → Perm l k → Perm (map f l) (map f k)
perm_map f none = none
perm_map f (skip p) = skip (perm_map f p)
perm_map f swap = swap
perm_map f (both p q) = both (perm_map f p) (perm_map f q)

pub perm_in : {A : Type 0} {l k : List A} {a : A} → Perm l k → Memᴰ a l → Memᴰ a k
perm_in none i = i
perm_in {a = a} (skip {x = x} {l = l} {l' = k} p) i = go (λ j. perm_in p j) (Memᴰ.cases_cons i)
  where
    go : (Memᴰ a l → Memᴰ a k) → (a ≡ x) ⊎ Memᴰ a l → Memᴰ a (x ∷ k)
    go ih (inl e) = Memᴰ.head e
    go ih (inr j) = Memᴰ.tail (ih j)
perm_in {a = a} (swap {x = x} {y = y} {l = l}) i = first (Memᴰ.cases_cons i)
  where
    second : (a ≡ y) ⊎ Memᴰ a l → Memᴰ a (y ∷ x ∷ l)
    second (inl e) = Memᴰ.head e
    second (inr j) = Memᴰ.tail (Memᴰ.tail j)

    first : (a ≡ x) ⊎ Memᴰ a (y ∷ l) → Memᴰ a (y ∷ x ∷ l)
    first (inl e) = Memᴰ.tail (Memᴰ.head e)
    first (inr j) = second (Memᴰ.cases_cons j)
perm_in (both p q) i = perm_in q (perm_in p i)

pub perm_fresh : {l k : List ℕ} → Perm l k → Fresh l → Fresh k
perm_fresh none f = f
perm_fresh (skip p) f = (λ i. f.0 (perm_in (perm_sym p) i), perm_fresh p f.1)
perm_fresh (swap {x = x} {y = y} {l = l}) f = (λ i. go (Memᴰ.cases_cons i), (λ i. f.0 (Memᴰ.tail i), f.1.1))
  where
    go : (y ≡ x) ⊎ Memᴰ y l → ⊥
    go (inl e) = f.0 (Memᴰ.head (sym e))
    go (inr i) = f.1.0 i
perm_fresh (both p q) f = perm_fresh q (perm_fresh p f)

pub fresh_append : (l k : List ℕ) → Fresh l → Fresh k → ((a : ℕ) → Memᴰ a l → Memᴰ a k → ⊥) → Fresh (l ++ k)
fresh_append [] k f g d = g
fresh_append (x ∷ l) k f g d = (λ i. go (Memᴰ.append_cases l i), fresh_append l k f.1 g (λ a i j. d a (Memᴰ.tail i) j))
  where
    go : Memᴰ x l ⊎ Memᴰ x k → ⊥
    go (inl i) = f.0 i
    go (inr i) = d x (Memᴰ.head refl) i

pub perm_keep : (ok : ℕ → Bool) {l k : List ℕ} → Perm l k → length (keep ok l) ≡ length (keep ok k)
unfolding keep
perm_keep ok none = refl
perm_keep ok (skip {x = x} p) = ⊎_elim (λ (e : ok x ≡ true). rw e (ap suc (perm_keep ok p))) (λ (e : ok x ≡ false). rw e (perm_keep ok p)) (either (ok x))
perm_keep ok (swap {x = x} {y = y} {l = l}) = go (ok x) (ok y)
  where
    k : List ℕ
    k = keep ok l

    go : (a b : Bool) → length (cond a (x ∷ cond b (y ∷ k) k) (cond b (y ∷ k) k)) ≡ length (cond b (y ∷ cond a (x ∷ k) k) (cond a (x ∷ k) k))
    go true true = refl
    go true false = refl
    go false true = refl
    go false false = refl
perm_keep ok (both p q) = perm_keep ok p ∙ perm_keep ok q
