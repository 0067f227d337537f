-- Parent forests: what union at two roots and a new place do to the roots. Parents, ranks and roots are functions of places, so that lists by
-- place can cite it.
--     Root par a r             following the parents from a comes to r, its own parent
--     Forest m rank par        parents of places below m are below m, and along a parent the rank rises
--     root_in                  then the root of a place below m is below m
--     Roots m par root         the roots of the m places, as a function
--     unite_merges             union merges the places of two roots: `labelled_pair` takes the pair in
--     new_roots                a new place is a root of its own
-- Assumes nothing.
use mathlib.Core.Path.{◌≡◌, sym, ◌∙◌, ap}
use mathlib.Core.Logic.{◌≢◌}
use Prim.Native.Nat.{ℕ, suc, ◌<◌}
use native.Mathlib.Omega.{arith}
use Rattle.scope.specs.Standing.{Lands, here, on}
use Rattle.scope.proofs.Lands.{lands_from, lands_unique}
use Rattle.scope.proofs.Members.{Put}
use Rattle.scope.proofs.Labels.{Merges}

abbrev pub Root : (ℕ → ℕ) → ℕ → ℕ → Type 0
Root par a r = Lands (λ w. par w ≡ w) par a r

pub record Forest (m : ℕ) (rank par : ℕ → ℕ) : Type 0 where
  pub par_in : (a : ℕ) → a < m → par a < m
  pub rises : (a : ℕ) → a < m → par a ≢ a → rank a < rank (par a)

pub root_in : {m : ℕ} {rank par : ℕ → ℕ} → Forest m rank par → {a r : ℕ} → a < m → Root par a r → r < m
root_in F h (here e) = h
root_in F h (on {x = x} n p) = root_in F (F.par_in x h) p

-- ---- union at two roots: par[p] := q, and the rank of q grows

module _ {m : ℕ} {rank par par' : ℕ → ℕ} {p q : ℕ} (F : Forest m rank par) (hp : p < m) (hq : q < m) (rp : par p ≡ p) (rq : par q ≡ q) (d : p ≢ q) (P : Put par par' p q) where
  q_stays : par' q ≡ q
  q_stays = P.rest q (λ (e : q ≡ p). d (sym e)) ∙ rq

  -- a root that is not p stays, and p's cells go to q
  pub unite_other : {x r : ℕ} → r ≢ p → Root par x r → Root par' x r
  unite_other k (here {x = x} e) = here (P.rest x k ∙ e)
  unite_other k (on {x = x} n t) =
      let z : x ≢ p = λ (e : x ≡ p). n (ap par e ∙ rp ∙ sym e) in
      on (λ f. n (sym (P.rest x z) ∙ f)) (lands_from (sym (P.rest x z)) (unite_other k t))

  pub unite_moved : {x r : ℕ} → r ≡ p → Root par x r → Root par' x q
  unite_moved k (here {x = x} e) = lands_from (sym k) (on (λ f. d (sym f ∙ P.put)) (lands_from (sym P.put) (here q_stays)))
  unite_moved k (on {x = x} n t) =
      let z : x ≢ p = λ (e : x ≡ p). n (ap par e ∙ rp ∙ sym e) in
      on (λ f. n (sym (P.rest x z) ∙ f)) (lands_from (sym (P.rest x z)) (unite_moved k t))

-- ---- the roots of all places

pub record Roots (m : ℕ) (par root : ℕ → ℕ) : Type 0 where
  pub is : (a : ℕ) → a < m → Root par a (root a)

pub unite_merges : {m : ℕ} {rank par par' root root' : ℕ → ℕ} {p q : ℕ} → Forest m rank par → p < m → q < m → par p ≡ p → par q ≡ q → p ≢ q → Put par par' p q
    → Roots m par root → Roots m par' root' → Merges m root root' p q
unite_merges F hp hq rp rq d P R R' = record {
  moved = λ w l e. lands_unique (R'.is w l) (unite_moved F hp hq rp rq d P e (R.is w l));
  stayed = λ w l e. lands_unique (R'.is w l) (unite_other F hp hq rp rq d P e (R.is w l));
}

-- the places below m keep their parents, and m is its own
module _ {m : ℕ} {rank par par' : ℕ → ℕ} (F : Forest m rank par) (old : (a : ℕ) → a < m → par' a ≡ par a) (new : par' m ≡ m) where
  kept_root : {a r : ℕ} → a < m → Root par a r → Root par' a r
  kept_root h (here {x = x} e) = here (old x h ∙ e)
  kept_root h (on {x = x} n t) = on (λ e. n (sym (old x h) ∙ e)) (lands_from (sym (old x h)) (kept_root (F.par_in x h) t))

  pub new_roots : {root root' : ℕ → ℕ} → Roots m par root → Roots (suc m) par' root'
      → ((a : ℕ) → a < m → root' a ≡ root a) × (root' m ≡ m) × ((a : ℕ) → a < m → root' a ≢ root' m)
  new_roots {root} {root'} R R' = (same, own, λ a h e. let l = root_in F h (R.is a h) in let s = same a h in let o = own in omega arith)
    where
      same : (a : ℕ) → a < m → root' a ≡ root a
      same a h = lands_unique (R'.is a (omega arith)) (kept_root h (R.is a h))

      own : root' m ≡ m
      own = lands_unique (R'.is m (omega arith)) (here new)
