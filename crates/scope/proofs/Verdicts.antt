-- Verdicts: what tests in a row have passed where they accept, and a scan's refusal over one number more.
--     both_accept, first_accepts, second_accepts     `v ▷ w` accepts exactly where both do
--     require_holds, require_accepts                 one test
--     none_fails, none_accepts                       a scan's test at every number below n
--     require_more                                   a scan over one number more is the scan, and then the test at that number
-- Assumes nothing.
use Prim.Native.Nat.{ℕ, suc, ◌<◌, ◌≤◌}
use mathlib.Core.Path.{◌≡◌, refl, ◌∙◌, ap}
use mathlib.Core.Bool.{Bool, true, false, cond}
use mathlib.Core.Logic.{⊎_elim}
use native.Mathlib.Nat.{eq-or-lt_of_le}
use native.Mathlib.Omega.{arith}
use lib.Dec.{ltb}
use borrow.Author.Tests.{lt-ltb, le-ltb, ltb-false}
use Rattle.scope.specs.declared.Refusal.{Refusal}
use Rattle.std.specs.Prelude.{Err, Ok}
use Rattle.scope.specs.Lists.{first_bad}
use Rattle.scope.specs.Answers.{require, require_none, is_accepted, ◌▷◌, Verdict}
use Rattle.scope.proofs.Tests.{either, le_or_lt}
use Rattle.scope.proofs.Scan.{first_bad_lowest, first_bad_is}

pub first_accepts : (v w : Verdict) → (v ▷ w) ≡ Ok tt → v ≡ Ok tt
first_accepts (Ok _) w e = refl
first_accepts (Err why) w e = e

pub second_accepts : (v w : Verdict) → (v ▷ w) ≡ Ok tt → w ≡ Ok tt
second_accepts (Ok _) w e = e
second_accepts (Err why) w e = let z : ◌≡◌ {A = ℕ} 0 1 = cc in absurd (omega arith)

pub both_accept : (v w : Verdict) → v ≡ Ok tt → w ≡ Ok tt → (v ▷ w) ≡ Ok tt
both_accept v w p q = ap (λ (u : Verdict). u ▷ w) p ∙ q

pub require_holds : (b : Bool) (why : Refusal) → require b why ≡ Ok tt → b ≡ true
require_holds true why e = refl
require_holds false why e = let z : ◌≡◌ {A = ℕ} 0 1 = cc in absurd (omega arith)

pub require_accepts : (b : Bool) (why : Refusal) → b ≡ true → require b why ≡ Ok tt
require_accepts b why e = ap (λ (t : Bool). require t why) e

pub accepted : (v : Verdict) → is_accepted v ≡ true → v ≡ Ok tt
accepted (Ok _) e = refl
accepted (Err why) e = let z : ◌≡◌ {A = ℕ} 0 1 = cc in absurd (omega arith)

none_below : (why : ℕ → Refusal) (n r : ℕ) → require_none why n r ≡ Ok tt → ltb r n ≡ false
none_below why n r e = go (ltb r n) e
  where
    go : (t : Bool) → ◌≡◌ {A = Verdict} (cond t (Err (why r)) (Ok tt)) (Ok tt) → t ≡ false
    go true e = let z : ◌≡◌ {A = ℕ} 0 1 = cc in absurd (omega arith)
    go false e = refl

module _ (why : ℕ → Refusal) (ok : ℕ → Bool) (n : ℕ) where
  pub none_fails : require_none why n (first_bad ok n) ≡ Ok tt → (i : ℕ) → i < n → ok i ≡ true
  none_fails e i h = let l = ltb-false (first_bad ok n) n (none_below why n (first_bad ok n) e) in (first_bad_lowest ok n).before i (omega arith)

  pub none_accepts : ((i : ℕ) → i < n → ok i ≡ true) → require_none why n (first_bad ok n) ≡ Ok tt
  none_accepts p =
      let e : n ≡ first_bad ok n = first_bad_is ok n (record { within = omega arith; before = p; here = λ h. absurd (omega arith) }) in
      ap (λ (b : Bool). cond b (Err (why (first_bad ok n))) (Ok tt)) (le-ltb (first_bad ok n) n (omega arith))

  pub require_more : require_none why (suc n) (first_bad ok (suc n)) ≡ (require_none why n (first_bad ok n) ▷ require (ok n) (why n))
  require_more =
      let L = first_bad_lowest ok n in
      ⊎_elim
      -- none fails below n
      (λ (h : n ≤ first_bad ok n).
      let passed : (k : ℕ) → k < n → ok k ≡ true = λ k l. L.before k (omega arith) in
      rw (le-ltb (first_bad ok n) n h)
      (⊎_elim
      (λ e.
      let all : suc n ≡ first_bad ok (suc n) = first_bad_is ok (suc n) (record {
        within = omega arith;
        before = λ k l. let m : k ≤ n = omega arith in ⊎_elim (λ q. ap ok q ∙ e) (passed k) (eq-or-lt_of_le m);
        here = λ l. absurd (omega arith);
      }) in
      rw (e, le-ltb (first_bad ok (suc n)) (suc n) (omega arith)))
      (λ e.
      let last : n ≡ first_bad ok (suc n) = first_bad_is ok (suc n) (record { within = omega arith; before = passed; here = λ _. e }) in
      rw (e, ← last, lt-ltb n (suc n) (omega arith)))
      (either (ok n))))
      (λ (h : first_bad ok n < n).
      let same : first_bad ok n ≡ first_bad ok (suc n) = first_bad_is ok (suc n) (record { within = omega arith; before = L.before; here = λ _. L.here h }) in
      rw (lt-ltb (first_bad ok n) n h, ← same, lt-ltb (first_bad ok n) (suc n) (omega arith)))
      (le_or_lt n (first_bad ok n))
