-- Stores in a row as a loop makes them, and the numbers that pass a test as a search finds them.
--     put_all_step       the first store of those left, then the others (the places are in Puts)
--     passing           the numbers from i on that pass, ascending; `below_passing`: from 0 on it is `below`
--     passing_next      its first is the lowest that passes, and the others follow
-- Assumes nothing.
use mathlib.Core.Path.{◌≡◌, refl, sym, ◌∙◌, ap}
use mathlib.Core.Logic.{⊎_elim}
use mathlib.Core.Bool.{Bool, true, false, not, cond}
use mathlib.Core.List.{List, [], ◌∷◌, ◌++◌, append-nil}
use Prim.Native.Nat.{ℕ, zero, suc, ◌+◌, ◌-◌, ◌≤◌, ◌<◌}
use native.Mathlib.Nat.{add-zero}
use native.Mathlib.Omega.{arith}
use lib.ListN.{length, set, drop}
use lib.Seq.{drop-cons}
use Rattle.scope.specs.Lists.{at, from, below, put_all}
use Rattle.scope.proofs.Tests.{either}

-- ---- stores

-- the stores from the i-th on, and the i-th of them first
pub put_all_step : (ks vs l : List ℕ) (i : ℕ) → i < length ks → i < length vs
    → put_all (drop i ks) (drop i vs) l ≡ put_all (drop (suc i) ks) (drop (suc i) vs) (set l (at ks i) (at vs i))
unfolding put_all
put_all_step ks vs l i h k = rw (drop-cons ks i 0 h, drop-cons vs i 0 k)

-- ---- the numbers that pass, from i on

unfoldable pub passing : (ℕ → Bool) → ℕ → ℕ → List ℕ
passing ok i zero = []
passing ok i (suc n) = let l = passing ok (suc i) n in cond (ok i) (i ∷ l) l

module _ (ok : ℕ → Bool) where
  passing_yes : (i n : ℕ) → ok i ≡ true → passing ok i (suc n) ≡ i ∷ passing ok (suc i) n
  unfolding passing
  passing_yes i n t = rw t

  passing_no : (i n : ℕ) → ok i ≡ false → passing ok i (suc n) ≡ passing ok (suc i) n
  unfolding passing
  passing_no i n t = rw t

  passing_none : (i : ℕ) → passing ok i 0 ≡ []
  unfolding passing
  passing_none i = refl

  -- the last number by itself
  abbrev lastly : ℕ → List ℕ
  lastly k = cond (ok k) (k ∷ []) []

  passing_last : (i n : ℕ) → passing ok i (suc n) ≡ passing ok i n ++ lastly (i + n)
  passing_last i zero = ⊎_elim
      (λ t. passing_yes i 0 t ∙ rw (passing_none (suc i), passing_none i, add-zero, t))
      (λ t. passing_no i 0 t ∙ rw (passing_none (suc i), passing_none i, add-zero, t))
      (either (ok i))
  passing_last i (suc n) =
      let moved : suc i + n ≡ i + suc n = omega arith in
      ⊎_elim
      (λ t. passing_yes i (suc n) t ∙ ap (λ (l : List ℕ). i ∷ l) (passing_last (suc i) n) ∙ rw (moved, passing_yes i n t))
      (λ t. passing_no i (suc n) t ∙ passing_last (suc i) n ∙ rw (moved, passing_no i n t))
      (either (ok i))

  pub below_passing : (n : ℕ) → below ok n ≡ passing ok 0 n
  unfolding below
  below_passing zero = sym (passing_none 0)
  below_passing (suc n) =
      let rest = passing_last 0 n in
      let same : 0 + n ≡ n = omega arith in
      ⊎_elim
      (λ t. rw t (rw (below_passing n, rest, same, t)))
      (λ t. rw t (rw (below_passing n, rest, same, t) (sym (append-nil (passing ok 0 n)))))
      (either (ok n))

-- where some number passes, the first is the lowest, and the others follow
pub passing_next : (used : ℕ → Bool) (n i : ℕ) → 0 < length (passing (λ k. not (used k)) i n)
    → (from used n i < i + n) × (i ≤ from used n i)
    × (passing (λ k. not (used k)) i n ≡ from used n i ∷ passing (λ k. not (used k)) (suc (from used n i)) (i + n - suc (from used n i)))
unfolding from
passing_next used zero i h = absurd (omega (arith, ap length (passing_none (λ k. not (used k)) i)))
passing_next used (suc n) i h = ⊎_elim
    (λ t. rw t
    (let skip = passing_no (λ k. not (used k)) i n (ap not t) in
    let r = passing_next used n (suc i) (rw skip at h) in
    let moved : suc i + n ≡ i + suc n = omega arith in
    (omega (arith, r.0), omega (arith, r.1), skip ∙ r.2 ∙ rw moved)))
    (λ t. rw t
    (let left : i + suc n - suc i ≡ n = omega arith in
    (omega arith, omega arith, passing_yes (λ k. not (used k)) i n (ap not t) ∙ rw left)))
    (either (used i))
