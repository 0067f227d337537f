-- Groups by labels: a function of places that tells apart exactly those that no chain of pairs joins. The labels worked out afresh are one,
-- and so are the roots of a parent forest.
--     Labelled n E f          of n places, those have one label that chains of pairs in E join
--     labelled_iff            one label exactly when a chain joins
--     labelled_chain          the pairs may be put in another way that joins the same; `labelled_alike`: so may the labels
--     labelled_none           every place its own label: no pair
--     Merges n f g low top    of the n places, those of label low get label top
--     labelled_pair           then g takes in one pair more, whose labels were low and top, either way round
-- Assumes nothing.
use mathlib.Core.Path.{◌≡◌, refl, sym, ◌∙◌, subst}
use mathlib.Core.Logic.{◌⊎◌, inl, inr, ◌≢◌}
use Prim.Native.Nat.{ℕ, ◌<◌}
use Rattle.scope.specs.Standing.{Chain, alone, pair, back, joined}
use Rattle.scope.proofs.Members.{cases}
use Rattle.scope.proofs.Chains.{chain_mono, chain_bind, chain_value}

pub record Labelled (n : ℕ) (E : ℕ → ℕ → Type 0) (f : ℕ → ℕ) : Type 0 where
  pub sound : (p q : ℕ) → p < n → q < n → f p ≡ f q → Chain E p q
  pub complete : (p q : ℕ) → E p q → f p ≡ f q
  pub pairs_in : (p q : ℕ) → E p q → (p < n) × (q < n)

pub labelled_iff : {n : ℕ} {E : ℕ → ℕ → Type 0} {f : ℕ → ℕ} → Labelled n E f → (p q : ℕ) → p < n → q < n → (f p ≡ f q → Chain E p q) × (Chain E p q → f p ≡ f q)
labelled_iff {f = f} L p q h k = (L.sound p q h k, λ c. chain_value f L.complete c)

-- the pairs may be put in another way
pub labelled_chain : {n : ℕ} {E F : ℕ → ℕ → Type 0} {f : ℕ → ℕ} → ((p q : ℕ) → E p q → Chain F p q) → ((p q : ℕ) → F p q → Chain E p q)
    → ((p q : ℕ) → F p q → (p < n) × (q < n)) → Labelled n E f → Labelled n F f
labelled_chain {f = f} to from inside L = record {
  sound = λ p q h k e. chain_bind to (L.sound p q h k e);
  complete = λ p q e. chain_value f L.complete (from p q e);
  pairs_in = inside;
}

pub labelled_same : {n : ℕ} {E F : ℕ → ℕ → Type 0} {f : ℕ → ℕ} → ((p q : ℕ) → E p q → F p q) → ((p q : ℕ) → F p q → E p q) → Labelled n E f → Labelled n F f
labelled_same to from L = labelled_chain (λ p q e. pair (to p q e)) (λ p q e. pair (from p q e)) (λ p q e. L.pairs_in p q (from p q e)) L

pub labelled_alike : {n : ℕ} {E : ℕ → ℕ → Type 0} {f g : ℕ → ℕ} → ((p : ℕ) → p < n → g p ≡ f p) → Labelled n E f → Labelled n E g
labelled_alike e L = record {
  sound = λ p q h k d. L.sound p q h k (sym (e p h) ∙ d ∙ e q k);
  complete = λ p q d. let h = L.pairs_in p q d in e p h.0 ∙ L.complete p q d ∙ sym (e q h.1);
  pairs_in = L.pairs_in;
}

-- no pair
pub labelled_none : {E : ℕ → ℕ → Type 0} {f : ℕ → ℕ} (n : ℕ) → ((p q : ℕ) → p < n → q < n → f p ≡ f q → p ≡ q) → ((p q : ℕ) → E p q → ⊥) → Labelled n E f
labelled_none {E} n own none = record {
  sound = λ p q h k e. subst (Chain E p) (own p q h k e) alone;
  complete = λ p q e. absurd (none p q e);
  pairs_in = λ p q e. absurd (none p q e);
}

-- ---- one pair more

-- the places of label low get label top
pub record Merges (n : ℕ) (f g : ℕ → ℕ) (low top : ℕ) : Type 0 where
  pub moved : (p : ℕ) → p < n → f p ≡ low → g p ≡ top
  pub stayed : (p : ℕ) → p < n → f p ≢ low → g p ≡ f p

-- the pairs of E and one more
abbrev pub With : (ℕ → ℕ → Type 0) → ℕ → ℕ → ℕ → ℕ → Type 0
With E i j p q = E p q ⊎ ((p ≡ i) × (q ≡ j))

-- u has label low, v has label top, and a chain of F joins them
module _ {n : ℕ} {E F : ℕ → ℕ → Type 0} {f g : ℕ → ℕ} {low top : ℕ} (L : Labelled n E f) (M : Merges n f g low top) (u v : ℕ) (hu : u < n) (hv : v < n)
    (eu : f u ≡ low) (ev : f v ≡ top) (mono : (p q : ℕ) → E p q → F p q) (link : Chain F u v) where
  old : (p q : ℕ) → p < n → q < n → f p ≡ f q → Chain F p q
  old p q h k e = chain_mono mono (L.sound p q h k e)

  to_top : (p : ℕ) → p < n → f p ≡ low → Chain F p v
  to_top p h e = joined (old p u h hu (e ∙ sym eu)) link

  merged_sound : (p q : ℕ) → p < n → q < n → g p ≡ g q → Chain F p q
  merged_sound p q h k e = cases (f p) low
      (λ x. cases (f q) low
      (λ y. joined (to_top p h x) (back (to_top q k y)))
      (λ d. joined (to_top p h x) (old v q hv k (ev ∙ sym (M.moved p h x) ∙ e ∙ M.stayed q k d))))
      (λ c. cases (f q) low
      (λ y. joined (old p v h hv (sym (M.stayed p h c) ∙ e ∙ M.moved q k y ∙ sym ev)) (back (to_top q k y)))
      (λ d. old p q h k (sym (M.stayed p h c) ∙ e ∙ M.stayed q k d)))

  merged_kept : (p q : ℕ) → p < n → q < n → f p ≡ f q → g p ≡ g q
  merged_kept p q h k e = cases (f p) low
      (λ x. M.moved p h x ∙ sym (M.moved q k (sym e ∙ x)))
      (λ c. M.stayed p h c ∙ e ∙ sym (M.stayed q k (λ y. c (e ∙ y))))

  merged_ends : g u ≡ g v
  merged_ends = cases (f v) low
      (λ x. merged_kept u v hu hv (eu ∙ sym x))
      (λ c. M.moved u hu eu ∙ sym ev ∙ sym (M.stayed v hv c))

pub labelled_pair : {n : ℕ} {E : ℕ → ℕ → Type 0} {f g : ℕ → ℕ} {low top : ℕ} → Labelled n E f → Merges n f g low top → (i j : ℕ) → i < n → j < n
    → ((f i ≡ low) × (f j ≡ top)) ⊎ ((f j ≡ low) × (f i ≡ top)) → Labelled n (With E i j) g
labelled_pair {n} {E} {f} {g} {low} {top} L M i j hi hj way = record {
  sound = λ p q h k e. sound p q h k e way;
  complete = λ p q e. both p q e way;
  pairs_in = λ p q e. ends p q e;
}
  where
    mono : (p q : ℕ) → E p q → With E i j p q
    mono p q e = inl e

    new : Chain (With E i j) i j
    new = pair (inr (refl, refl))

    sound : (p q : ℕ) → p < n → q < n → g p ≡ g q → ((f i ≡ low) × (f j ≡ top)) ⊎ ((f j ≡ low) × (f i ≡ top)) → Chain (With E i j) p q
    sound p q h k e (inl (x, y)) = merged_sound L M i j hi hj x y mono new p q h k e
    sound p q h k e (inr (x, y)) = merged_sound L M j i hj hi x y mono (back new) p q h k e

    united : ((f i ≡ low) × (f j ≡ top)) ⊎ ((f j ≡ low) × (f i ≡ top)) → g i ≡ g j
    united (inl (x, y)) = merged_ends L M i j hi hj x y mono new
    united (inr (x, y)) = sym (merged_ends L M j i hj hi x y mono (back new))

    kept : (p q : ℕ) → p < n → q < n → f p ≡ f q → ((f i ≡ low) × (f j ≡ top)) ⊎ ((f j ≡ low) × (f i ≡ top)) → g p ≡ g q
    kept p q h k e (inl (x, y)) = merged_kept L M i j hi hj x y mono new p q h k e
    kept p q h k e (inr (x, y)) = merged_kept L M j i hj hi x y mono (back new) p q h k e

    both : (p q : ℕ) → With E i j p q → ((f i ≡ low) × (f j ≡ top)) ⊎ ((f j ≡ low) × (f i ≡ top)) → g p ≡ g q
    both p q (inl e) w = let h = L.pairs_in p q e in kept p q h.0 h.1 (L.complete p q e) w
    both p q (inr (x, y)) w = rw (x, y) (united w)

    ends : (p q : ℕ) → With E i j p q → (p < n) × (q < n)
    ends p q (inl e) = L.pairs_in p q e
    ends p q (inr (x, y)) = rw (x, y) (hi, hj)
