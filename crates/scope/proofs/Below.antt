-- The numbers below n that pass a test, as a list by its places; and how `keep` and `tabulate` are lists by place too.
--     below_yes, below_no       one number more
--     below_count, below_less   how many there are
--     below_passes              each is below n and passes
--     below_rises               they ascend
--     below_same                tests that agree list alike
--     keep_below                what is kept of a list, by the places of its members
--     tabulate_at, map_at       the member at a place
-- Assumes nothing.
use Prim.Native.Nat.{ℕ, zero, suc, ◌+◌, ◌-◌, ◌≤◌, ◌<◌}
use mathlib.Core.Path.{◌≡◌, refl, sym, ◌∙◌, ap, subst}
use mathlib.Core.Bool.{Bool, true, false}
use mathlib.Core.Logic.{⊎_elim}
use mathlib.Core.List.{List, [], ◌∷◌, ◌++◌, map}
use native.Mathlib.Numerals.{add-one}
use native.Mathlib.Omega.{arith}
use lib.ListN.{length, get_or, take, length-append, get_or-append}
use lib.Seq.{ext_get_or, get_or-append_seam, take-suc, take_all}
use Rattle.scope.specs.Lists.{at, below, keep, tabulate_from, tabulate}
use Rattle.scope.proofs.Tests.{either}
use Rattle.scope.proofs.Members.{cases, mem_at, mem_below}

module _ (ok : ℕ → Bool) where
  pub below_yes : (m : ℕ) → ok m ≡ true → below ok (m + 1) ≡ below ok m ++ (m ∷ [])
  unfolding below
  below_yes m e = rw (add-one m, e)

  pub below_no : (m : ℕ) → ok m ≡ false → below ok (m + 1) ≡ below ok m
  unfolding below
  below_no m e = rw (add-one m, e)

  -- ---- how many

  pub count_yes : (m : ℕ) → ok m ≡ true → length (below ok (m + 1)) ≡ length (below ok m) + 1
  count_yes m e = ap length (below_yes m e) ∙ length-append (below ok m) (m ∷ [])

  pub below_count : (m : ℕ) → length (below ok m) ≤ m
  below_count zero = unfold below in omega arith
  below_count (suc m) = rw (← add-one m) (⊎_elim
      (λ e. let h = below_count m in let c = count_yes m e in omega arith)
      (λ e. rw (below_no m e) (let h = below_count m in omega arith))
      (either (ok m)))

  below_grows : (a d : ℕ) → length (below ok a) ≤ length (below ok (a + d))
  below_grows a zero = rw (let z : a + 0 ≡ a = omega arith in z) (let n = length (below ok a) in omega arith)
  below_grows a (suc d) = rw (let z : a + suc d ≡ a + d + 1 = omega arith in z) (⊎_elim
      (λ e. let h = below_grows a d in let c = count_yes (a + d) e in omega arith)
      (λ e. rw (below_no (a + d) e) (below_grows a d))
      (either (ok (a + d))))

  pub below_less : (a b : ℕ) → a ≤ b → length (below ok a) ≤ length (below ok b)
  below_less a b h = subst (λ (z : ℕ). length (below ok a) ≤ length (below ok z)) (let z : a + (b - a) ≡ b = omega arith in z) (below_grows a (b - a))

  -- ---- by their places

  pub below_passes : (m i : ℕ) → i < length (below ok m) → (at (below ok m) i < m) × (ok (at (below ok m) i) ≡ true)
  below_passes m i h = mem_below ok m (at (below ok m) i) (mem_at (below ok m) i h)

  pub below_rises : (m i j : ℕ) → i < j → j < length (below ok m) → at (below ok m) i < at (below ok m) j
  below_rises zero i j l = λ h. absurd (let n = below_count 0 in omega arith)
  below_rises (suc m) i j l = rw (← add-one m) (⊎_elim
      (λ e. rw (below_yes m e) (λ h. last (below_rises m i j l) (rw length-append at h)))
      (λ e. rw (below_no m e) (below_rises m i j l))
      (either (ok m)))
    where
      last : (j < length (below ok m) → at (below ok m) i < at (below ok m) j) → j < length (below ok m) + 1
          → at (below ok m ++ (m ∷ [])) i < at (below ok m ++ (m ∷ [])) j
      last ih h = cases j (length (below ok m))
          (λ q. let k : i < length (below ok m) = omega arith in
          rw (get_or-append (below ok m) (m ∷ []) 0 i k, q, get_or-append_seam (below ok m) m [] 0) (below_passes m i k).0)
          (λ d. rw (get_or-append (below ok m) (m ∷ []) 0 i (omega arith), get_or-append (below ok m) (m ∷ []) 0 j (omega arith)) (ih (omega arith)))

-- tests that agree below n
pub below_same : (ok ko : ℕ → Bool) (n : ℕ) → ((i : ℕ) → i < n → ok i ≡ ko i) → below ok n ≡ below ko n
below_same ok ko zero e = unfold below in refl
below_same ok ko (suc n) e =
    ap (below ok) (sym (add-one n)) ∙ ⊎_elim
    (λ t. below_yes ok n (e n (omega arith) ∙ t) ∙ ap (λ (l : List ℕ). l ++ (n ∷ [])) (below_same ok ko n (λ i h. e i (omega arith))) ∙ sym (below_yes ko n t))
    (λ t. below_no ok n (e n (omega arith) ∙ t) ∙ below_same ok ko n (λ i h. e i (omega arith)) ∙ sym (below_no ko n t))
    (either (ko n)) ∙ ap (below ko) (add-one n)

-- ---- what is kept of a list, by the places of its members

pub keep_append : (ok : ℕ → Bool) (a b : List ℕ) → keep ok (a ++ b) ≡ keep ok a ++ keep ok b
unfolding keep
keep_append ok [] b = refl
keep_append ok (x ∷ a) b = ⊎_elim
    (λ (e : ok x ≡ true). simp e (ap (λ (l : List ℕ). x ∷ l) (keep_append ok a b)))
    (λ (e : ok x ≡ false). simp e (keep_append ok a b))
    (either (ok x))

pub map_append : {A B : Type 0} (f : A → B) (a b : List A) → map f (a ++ b) ≡ map f a ++ map f b
map_append f [] b = refl
map_append f (x ∷ a) b = ap (λ l. f x ∷ l) (map_append f a b)

keep_take : (ok : ℕ → Bool) (l : List ℕ) (n : ℕ) → n ≤ length l → keep ok (take n l) ≡ map (at l) (below (λ i. ok (at l i)) n)
keep_take ok l zero h = unfold keep below in refl
keep_take ok l (suc n) h =
    ap (keep ok) (take-suc l n 0 h) ∙ keep_append ok (take n l) (at l n ∷ [])
    ∙ ap (λ (z : List ℕ). z ++ keep ok (at l n ∷ [])) (keep_take ok l n (omega arith))
    ∙ ⊎_elim
    (λ e. ap (λ (z : List ℕ). map (at l) (below (λ i. ok (at l i)) n) ++ z) (keep_one e)
    ∙ sym (map_append (at l) (below (λ i. ok (at l i)) n) (n ∷ [])) ∙ ap (map (at l)) (sym (below_yes (λ i. ok (at l i)) n e) ∙ more))
    (λ e. ap (λ (z : List ℕ). map (at l) (below (λ i. ok (at l i)) n) ++ z) (keep_none e)
    ∙ none (map (at l) (below (λ i. ok (at l i)) n)) ∙ ap (map (at l)) (sym (below_no (λ i. ok (at l i)) n e) ∙ more))
    (either (ok (at l n)))
  where
    more : below (λ i. ok (at l i)) (n + 1) ≡ below (λ i. ok (at l i)) (suc n)
    more = ap (below (λ i. ok (at l i))) (add-one n)

    keep_one : ok (at l n) ≡ true → keep ok (at l n ∷ []) ≡ at l n ∷ []
    keep_one e = unfold keep in rw e

    keep_none : ok (at l n) ≡ false → keep ok (at l n ∷ []) ≡ []
    keep_none e = unfold keep in rw e

    none : (a : List ℕ) → a ++ [] ≡ a
    none [] = refl
    none (x ∷ a) = ap (λ (z : List ℕ). x ∷ z) (none a)

pub keep_below : (ok : ℕ → Bool) (l : List ℕ) → keep ok l ≡ map (at l) (below (λ i. ok (at l i)) (length l))
keep_below ok l = ap (keep ok) (sym (take_all (length l) l (omega arith))) ∙ keep_take ok l (length l) (omega arith)

-- ---- lists by place

pub tabulate_length : (f : ℕ → ℕ) (i n : ℕ) → length (tabulate_from f i n) ≡ n
unfolding tabulate_from
tabulate_length f i zero = refl
tabulate_length f i (suc n) = ap suc (tabulate_length f (suc i) n)

from_at : (f : ℕ → ℕ) (i n k : ℕ) → k < n → at (tabulate_from f i n) k ≡ f (i + k)
unfolding tabulate_from
from_at f i zero k h = absurd (omega arith)
from_at f i (suc n) zero h = ap f (let z : i ≡ i + 0 = omega arith in z)
from_at f i (suc n) (suc k) h = from_at f (suc i) n k (omega arith) ∙ ap f (let z : suc i + k ≡ i + suc k = omega arith in z)

pub tabulate_at : (f : ℕ → ℕ) (n k : ℕ) → k < n → at (tabulate f n) k ≡ f k
tabulate_at f n k h = from_at f 0 n k h ∙ ap f (let z : 0 + k ≡ k = omega arith in z)

pub map_at : {A : Type 0} (d : A) (f : ℕ → A) (l : List ℕ) (i : ℕ) → i < length l → get_or (map f l) i d ≡ f (at l i)
map_at d f [] i h = absurd (omega arith)
map_at d f (x ∷ l) zero h = refl
map_at d f (x ∷ l) (suc i) h = map_at d f l i (omega arith)

pub map_length : {A B : Type 0} (f : A → B) (l : List A) → length (map f l) ≡ length l
map_length f [] = refl
map_length f (x ∷ l) = ap suc (map_length f l)

-- a list is its members at 0, 1, ..
pub map_numbers : (l : List ℕ) → map (at l) (tabulate (λ i. i) (length l)) ≡ l
map_numbers l =
    let len : length (map (at l) (tabulate (λ i. i) (length l))) ≡ length l = map_length (at l) (tabulate (λ i. i) (length l)) ∙ tabulate_length (λ i. i) 0 (length l) in
    ext_get_or 0 (map (at l) (tabulate (λ i. i) (length l))) l len (λ i h.
    map_at 0 (at l) (tabulate (λ i. i) (length l)) i (let t = tabulate_length (λ i. i) 0 (length l) in omega arith)
    ∙ ap (at l) (tabulate_at (λ i. i) (length l) i (omega arith)))
