-- Members and places of lists of numbers.
--     cases                           two numbers are equal or not
--     Fresh l                         no member twice
--     mem_at, place, fresh_at         members by their places
--     member_true, member_false       the test `member` is membership; `fresh_test`: `names_twice` tests `Fresh`
--     below_mem, mem_below            `below` lists the numbers that pass; `below_fresh`: each once
--     Put f g i v                     a store, by what it does at each place
-- Assumes nothing.
use mathlib.Core.Path.{◌≡◌, refl, sym, ◌∙◌, ap}
use mathlib.Core.Logic.{◌⊎◌, inl, inr, ⊎_elim, ◌≢◌}
use mathlib.Core.Bool.{Bool, true, false, ◌||◌}
use mathlib.Core.List.Memᴰ
use mathlib.Core.List.{List, [], ◌∷◌, ◌++◌, Memᴰ}
use Prim.Native.Nat.{ℕ, zero, suc, ◌<◌}
use native.Mathlib.Decide.{ℕ_discrete}
use native.Mathlib.Omega.{arith}
use borrow.Author.Tests.{eq-eqb, ne_eqb}
use lib.Dec.{eqb}
use lib.ListN.{length, set}
use lib.Seq.{get_or-set_same, get_or-set_other}
use Rattle.scope.specs.Lists.{at, member, below}
use Rattle.scope.specs.Pool.{names_twice}
use Rattle.scope.proofs.Tests.{either, clash}

-- two numbers are equal or not
pub cases : (a b : ℕ) {P : Type 0} → (a ≡ b → P) → (a ≢ b → P) → P
cases a b {P} f g = go (ℕ_discrete a b)
  where
    go : Dec (a ≡ b) → P
    go (yes e) = f e
    go (no m) = g m

-- ---- members by their places

pub mem_at : (l : List ℕ) (i : ℕ) → i < length l → Memᴰ (at l i) l
mem_at [] i h = absurd (omega arith)
mem_at (x ∷ l) zero h = Memᴰ.head refl
mem_at (x ∷ l) (suc i) h = Memᴰ.tail (mem_at l i (omega arith))

pub place : {a : ℕ} {l : List ℕ} → Memᴰ a l → (i : ℕ) × (i < length l) × (at l i ≡ a)
place (Memᴰ.head e) = (0, omega arith, sym e)
place (Memᴰ.tail m) = let r = place m in (suc r.0, omega (arith, r.1), r.2)

pub mem_dec : (a : ℕ) (l : List ℕ) → Dec (Memᴰ a l)
mem_dec a [] = no Memᴰ.not-nil
mem_dec a (x ∷ l) = go (ℕ_discrete a x) (mem_dec a l)
  where
    go : Dec (a ≡ x) → Dec (Memᴰ a l) → Dec (Memᴰ a (x ∷ l))
    go (yes e) d = yes (Memᴰ.head e)
    go (no m) (yes i) = yes (Memᴰ.tail i)
    go (no m) (no i) = no (λ (h : Memᴰ a (x ∷ l)). out (Memᴰ.cases_cons h))
      where
        out : (a ≡ x) ⊎ Memᴰ a l → ⊥
        out (inl e) = m e
        out (inr j) = i j

-- ---- the test `member`

pub member_true : {a : ℕ} {l : List ℕ} → Memᴰ a l → member a l ≡ true
unfolding member
member_true {a} (Memᴰ.head {x = x} e) = rw (eq-eqb a x e)
member_true {a} (Memᴰ.tail {x = x} {xs = xs} m) = go (eqb a x) (member_true m)
  where
    go : (b : Bool) → member a xs ≡ true → (b || member a xs) ≡ true
    go true e = refl
    go false e = e

pub member_false : (a : ℕ) (l : List ℕ) → (Memᴰ a l → ⊥) → member a l ≡ false
unfolding member
member_false a [] n = refl
member_false a (x ∷ l) n = rw (ne_eqb a x (λ e. n (Memᴰ.head e))) (member_false a l (λ m. n (Memᴰ.tail m)))

pub member_mem : (a : ℕ) (l : List ℕ) → member a l ≡ true → Memᴰ a l
member_mem a l e = go (mem_dec a l)
  where
    go : Dec (Memᴰ a l) → Memᴰ a l
    go (yes m) = m
    go (no n) = absurd (clash e (member_false a l n))

-- ---- no member twice

abbrev pub Fresh : List ℕ → Type 0
Fresh [] = Unit {0}
Fresh (x ∷ l) = (Memᴰ x l → ⊥) × Fresh l

pub fresh_at : (l : List ℕ) → Fresh l → (i j : ℕ) → i < length l → j < length l → at l i ≡ at l j → i ≡ j
fresh_at [] f i j h k e = absurd (omega arith)
fresh_at (x ∷ l) f zero zero h k e = refl
fresh_at (x ∷ l) f zero (suc j) h k e = absurd (f.0 (Memᴰ.cast e (mem_at l j (omega arith))))
fresh_at (x ∷ l) f (suc i) zero h k e = absurd (f.0 (Memᴰ.cast (sym e) (mem_at l i (omega arith))))
fresh_at (x ∷ l) f (suc i) (suc j) h k e = ap suc (fresh_at l f.1 i j (omega arith) (omega arith) e)

-- one more at the end
pub fresh_last : (l : List ℕ) (x : ℕ) → Fresh l → (Memᴰ x l → ⊥) → Fresh (l ++ (x ∷ []))
fresh_last [] x f n = (Memᴰ.not-nil, tt)
fresh_last (y ∷ l) x f n = (λ m. go (Memᴰ.append_cases l m), fresh_last l x f.1 (λ m. n (Memᴰ.tail m)))
  where
    go : Memᴰ y l ⊎ Memᴰ y (x ∷ []) → ⊥
    go (inl m) = f.0 m
    go (inr m) = n (Memᴰ.head (sym (Memᴰ.eq_of_singleton m)))

pub fresh_front : (l : List ℕ) (x : ℕ) → Fresh (l ++ (x ∷ [])) → Fresh (x ∷ l)
fresh_front [] x f = f
fresh_front (y ∷ l) x f =
    let g = fresh_front l x f.1 in (
      λ m. ⊎_elim (λ (e : x ≡ y). f.0 (Memᴰ.append_right l (Memᴰ.head (sym e)))) (λ (k : Memᴰ x l). g.0 k) (Memᴰ.cases_cons m),
      (λ m. f.0 (Memᴰ.append_left (x ∷ []) m), g.1),
    )

pub fresh_test : (l : List ℕ) → names_twice l ≡ false → Fresh l
unfolding names_twice
fresh_test [] e = tt
fresh_test (x ∷ l) e = go (mem_dec x l) (λ d. fresh_test l d)
  where
    go : Dec (Memᴰ x l) → (names_twice l ≡ false → Fresh l) → Fresh (x ∷ l)
    go (yes m) ih = absurd (clash (rw (member_true m)) e)
    go (no n) ih = (n, ih (rw (member_false x l n) at e))

-- ---- the numbers below n that pass

pub below_mem : (ok : ℕ → Bool) (n a : ℕ) → a < n → ok a ≡ true → Memᴰ a (below ok n)
unfolding below
below_mem ok zero a h e = absurd (omega arith)
below_mem ok (suc n) a h e = cases a n
    (λ q. rw (let z : ok n ≡ true = ap ok (sym q) ∙ e in z) (Memᴰ.append_right (below ok n) (Memᴰ.head q)))
    (λ d. ⊎_elim (λ t. rw t (Memᴰ.append_left (n ∷ []) (below_mem ok n a (omega arith) e))) (λ t. rw t (below_mem ok n a (omega arith) e)) (either (ok n)))

pub mem_below : (ok : ℕ → Bool) (n a : ℕ) → Memᴰ a (below ok n) → (a < n) × (ok a ≡ true)
unfolding below
mem_below ok zero a m = absurd (Memᴰ.not-nil m)
mem_below ok (suc n) a m =
    ⊎_elim
    (λ t. last t (λ k. mem_below ok n a k) (Memᴰ.append_cases (below ok n) (rw t at m)))
    (λ t. more (mem_below ok n a (rw t at m)))
    (either (ok n))
  where
    more : (a < n) × (ok a ≡ true) → (a < suc n) × (ok a ≡ true)
    more r = (omega (arith, r.0), r.1)

    last : ok n ≡ true → (Memᴰ a (below ok n) → (a < n) × (ok a ≡ true)) → Memᴰ a (below ok n) ⊎ Memᴰ a (n ∷ []) → (a < suc n) × (ok a ≡ true)
    last t ih (inl k) = more (ih k)
    last t ih (inr k) = let e : a ≡ n = Memᴰ.eq_of_singleton k in (omega arith, ap ok e ∙ t)

pub below_fresh : (ok : ℕ → Bool) (n : ℕ) → Fresh (below ok n)
unfolding below
below_fresh ok zero = tt
below_fresh ok (suc n) =
    ⊎_elim
    (λ (t : ok n ≡ true). rw t (fresh_last (below ok n) n (below_fresh ok n) (λ m. let h = (mem_below ok n n m).0 in omega arith)))
    (λ (t : ok n ≡ false). rw t (below_fresh ok n))
    (either (ok n))

-- ---- a store, by what it does at each place

pub record Put (f g : ℕ → ℕ) (i v : ℕ) : Type 0 where
  pub put : g i ≡ v
  pub rest : (w : ℕ) → w ≢ i → g w ≡ f w

pub put_set : (l : List ℕ) (i v : ℕ) → i < length l → Put (at l) (at (set l i v)) i v
put_set l i v h = record { put = get_or-set_same l i v 0 h; rest = λ w d. get_or-set_other l i w v 0 d }
