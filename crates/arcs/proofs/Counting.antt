-- How many slots are used, and how stores change that.
--     used_total                    the used slots below n
--     free_count                   free and used slots add up to the pool
--     used_less, used_more         a slot cleared, a free slot filled
--     used_clear, used_put         two slots cleared, free slots filled in a row
-- Assumes nothing.
use mathlib.Core.Path.{◌≡◌, refl, sym, ap, ◌∙◌}
use mathlib.Core.Logic.{⊎_elim, ◌≢◌}
use mathlib.Core.Bool.{Bool, true, false, not, cond}
use mathlib.Core.List.Memᴰ
use mathlib.Core.List.{List, [], ◌∷◌, Memᴰ}
use Prim.Native.Nat.{ℕ, zero, suc, ◌+◌, ◌<◌}
use native.Mathlib.Omega.{arith}
use lib.Dec.{eqb}
use lib.ListN.{length, set, length-set, length-append}
use lib.Seq.{get_or-set_same, get_or-set_other}
use borrow.Author.Tests.{eq-eqb, ne_eqb}
use Rattle.scope.specs.Lists.{at, below, total, put_all}
use Rattle.scope.proofs.Tests.{either}
use Rattle.scope.proofs.Members.{Fresh}
use Rattle.scope.proofs.Sums.{total_change}
use Rattle.scope.proofs.PoolCount.{count_both}
use Rattle.free_slots.specs.Search.{used_in}
use Rattle.placing.specs.Place.{free_in}
use Rattle.pair_links.specs.Links.{clear_two}

abbrev one : List ℕ → ℕ → ℕ
one l s = cond (used_in l s) 1 0

abbrev pub used_total : List ℕ → ℕ → ℕ
used_total l n = total (one l) n

below_total : (ok : ℕ → Bool) (n : ℕ) → length (below ok n) ≡ total (λ s. cond (ok s) 1 0) n
unfolding below total
below_total ok zero = refl
below_total ok (suc n) = ⊎_elim
    (λ (t : ok n ≡ true). rw t (let e = length-append (below ok n) (n ∷ []) in let h = below_total ok n in omega arith))
    (λ (t : ok n ≡ false). rw t (let h = below_total ok n in omega arith))
    (either (ok n))

pub free_count : (l : List ℕ) → length (free_in l) + used_total l (length l) ≡ length l
free_count l = let e = below_total (used_in l) (length l) in let c = count_both (used_in l) (length l) in omega arith

-- a used slot counts one, a free one none
one_used : (l : List ℕ) (s : ℕ) → at l s ≢ 0 → one l s ≡ 1
one_used l s u = rw (ap not (ne_eqb (at l s) 0 u))

one_free : (l : List ℕ) (s : ℕ) → at l s ≡ 0 → one l s ≡ 0
one_free l s e = rw (ap not (eq-eqb (at l s) 0 e))

module _ (l : List ℕ) (n x : ℕ) (h : x < n) (k : x < length l) where
  changed : (v : ℕ) → used_total (set l x v) n + one l x ≡ used_total l n + one (set l x v) x
  changed v = total_change (one l) (one (set l x v)) n x h (λ i g d. sym (ap (λ (w : ℕ). cond (not (eqb w 0)) 1 0) (get_or-set_other l x i v 0 d)))

  pub used_less : at l x ≢ 0 → used_total (set l x 0) n + 1 ≡ used_total l n
  used_less u = omega (arith, changed 0, one_used l x u, one_free (set l x 0) x (get_or-set_same l x 0 0 k))

  pub used_more : (v : ℕ) → at l x ≡ 0 → v ≢ 0 → used_total (set l x v) n ≡ used_total l n + 1
  used_more v e u = omega (arith, changed v, one_free l x e, one_used (set l x v) x (λ z. u (sym (get_or-set_same l x v 0 k) ∙ z)))

pub used_clear : (l : List ℕ) (n x y : ℕ) → length l ≡ n → x < n → y < n → x ≢ y → at l x ≢ 0 → at l y ≢ 0 → used_total (clear_two l x y) n + 2 ≡ used_total l n
unfolding clear_two
used_clear l n x y e hx hy d u v =
    let a = used_less l n x hx (omega arith) u in
    let lx = length-set l x 0 in
    let other : at (set l x 0) y ≡ at l y = get_or-set_other l x y 0 0 (λ z. d (sym z)) in
    let b = used_less (set l x 0) n y hy (omega arith) (λ z. v (sym other ∙ z)) in
    omega arith

pub used_put : (ks vs l : List ℕ) (n : ℕ) → Fresh ks → length vs ≡ length ks → ((a : ℕ) → Memᴰ a ks → (a < n) × (a < length l) × (at l a ≡ 0))
    → ((v : ℕ) → Memᴰ v vs → v ≢ 0) → used_total (put_all ks vs l) n ≡ used_total l n + length ks
unfolding put_all
used_put [] vs l n f e h g = omega arith
used_put (k ∷ ks) [] l n f e h g = absurd (omega arith)
used_put (k ∷ ks) (v ∷ vs) l n f e h g =
    let here = h k (Memᴰ.head refl) in
    let more = used_more l n k here.0 here.1 v here.2 (g v (Memᴰ.head refl)) in
    let rest = used_put ks vs (set l k v) n f.1 (omega arith)
    (λ a i. let w = h a (Memᴰ.tail i) in (w.0, rw length-set w.1, get_or-set_other l k a v 0 (λ z. f.0 (Memᴰ.cast (sym z) i)) ∙ w.2))
    (λ w i. g w (Memᴰ.tail i)) in
    omega arith
