-- The unions of cancelled pairs: which pairs are met, and what uniting them leaves of parents, ranks and roots.
--     met_in, met_first_lem     what `met_first` lists: slots that cancel, and each whose reverse is in a slot that is not the outline's
--     PairsHeld             the two cells of each pair are held
--     united_forest         the parents and ranks keep their rules; `united_length`: and their lengths
--     united_labels         the roots tell what chains join with these pairs too
-- Assumes nothing.
use mathlib.Core.Path.{◌≡◌, refl, ◌∙◌, ap}
use mathlib.Core.Logic.{◌⊎◌, inl, inr, ⊎_elim}
use mathlib.Core.Bool.{Bool, true, false, ◌&&◌, not, cond}
use mathlib.Core.List.Memᴰ
use mathlib.Core.List.{List, [], ◌∷◌, Memᴰ}
use Prim.Native.Nat.{ℕ, ◌<◌}
use lib.ListN.{length}
use Rattle.scope.specs.Lists.{at, member}
use Rattle.scope.specs.Table.{Table}
use Rattle.scope.specs.Memory.{Memory}
use Rattle.scope.specs.Pool.{reverse_slot, cancels, met_first, unite_pairs}
use Rattle.scope.specs.UnionFind.{root_of, United}
use Rattle.scope.proofs.Tests.{either, and_left}
use Rattle.scope.proofs.Members.{member_false}
use Rattle.scope.proofs.Labels.{Labelled, labelled_same, With}
use Rattle.scope.proofs.Halving.{Forest}
use Rattle.scope.proofs.Unions.{uniting_keeps}
use Rattle.scope.proofs.Joining.{uniting_labels, uniting_length}

module _ (t : Table) (m : Memory) where
  -- ---- the pairs that are met

  pub met_in : (seen ss : List ℕ) (s : ℕ) → Memᴰ s (met_first t m seen ss) → Memᴰ s ss × (cancels t m s ≡ true)
  unfolding met_first
  met_in seen [] s i = absurd (Memᴰ.not-nil i)
  met_in seen (k ∷ ss) s i = ⊎_elim
      (λ (e : (cancels t m k && not (member (reverse_slot t m k) seen)) ≡ true). here e (λ j. met_in (k ∷ seen) ss s j) (Memᴰ.cases_cons (rw e at i)))
      (λ (e : (cancels t m k && not (member (reverse_slot t m k) seen)) ≡ false). later (met_in (k ∷ seen) ss s (rw e at i)))
      (either (cancels t m k && not (member (reverse_slot t m k) seen)))
    where
      later : Memᴰ s ss × (cancels t m s ≡ true) → Memᴰ s (k ∷ ss) × (cancels t m s ≡ true)
      later r = (Memᴰ.tail r.0, r.1)

      here : (cancels t m k && not (member (reverse_slot t m k) seen)) ≡ true → (Memᴰ s (met_first t m (k ∷ seen) ss) → Memᴰ s ss × (cancels t m s ≡ true))
          → (s ≡ k) ⊎ Memᴰ s (met_first t m (k ∷ seen) ss) → Memᴰ s (k ∷ ss) × (cancels t m s ≡ true)
      here e ih (inl q) = (Memᴰ.head q, ap (cancels t m) q ∙ and_left (cancels t m k) _ e)
      here e ih (inr j) = later (ih j)

  pub met_first_lem : (seen ss : List ℕ) (s : ℕ) → Memᴰ s ss → cancels t m s ≡ true → (Memᴰ (reverse_slot t m s) seen → ⊥)
      → (Memᴰ (reverse_slot t m s) ss → ⊥) → Memᴰ s (met_first t m seen ss)
  unfolding met_first
  met_first_lem seen [] s i c n k = absurd (Memᴰ.not-nil i)
  met_first_lem seen (a ∷ ss) s i c n k = go (Memᴰ.cases_cons i) (λ j. met_first_lem (a ∷ seen) ss s j c (λ q. past (Memᴰ.cases_cons q)) (λ q. k (Memᴰ.tail q)))
    where
      past : (reverse_slot t m s ≡ a) ⊎ Memᴰ (reverse_slot t m s) seen → ⊥
      past (inl e) = k (Memᴰ.head e)
      past (inr j) = n j

      keep : (b : Bool) → Memᴰ s (met_first t m (a ∷ seen) ss) → Memᴰ s (cond b (a ∷ met_first t m (a ∷ seen) ss) (met_first t m (a ∷ seen) ss))
      keep true j = Memᴰ.tail j
      keep false j = j

      go : (s ≡ a) ⊎ Memᴰ s ss → (Memᴰ s ss → Memᴰ s (met_first t m (a ∷ seen) ss))
          → Memᴰ s (cond (cancels t m a && not (member (reverse_slot t m a) seen)) (a ∷ met_first t m (a ∷ seen) ss) (met_first t m (a ∷ seen) ss))
      go (inl e) ih =
          let met : (cancels t m a && not (member (reverse_slot t m a) seen)) ≡ true =
          rw (← e, c, member_false (reverse_slot t m s) seen n) in
          rw met (Memᴰ.head e)
      go (inr j) ih = keep (cancels t m a && not (member (reverse_slot t m a) seen)) (ih j)

  -- ---- uniting them

  abbrev pub PairsHeld : ℕ → List ℕ → Type 0
  PairsHeld n ss = (s : ℕ) → Memᴰ s ss → (at m.slot_cell s < n) × (at m.slot_cell (reverse_slot t m s) < n)

  rest : {n : ℕ} {s : ℕ} {ss : List ℕ} → PairsHeld n (s ∷ ss) → PairsHeld n ss
  rest h k i = h k (Memᴰ.tail i)

  pub united_forest : (n : ℕ) (ss : List ℕ) (u : United) → Forest u.parents u.ranks n → PairsHeld n ss
      → Forest (unite_pairs t m ss u).parents (unite_pairs t m ss u).ranks n
  unfolding unite_pairs
  united_forest n [] u w h = w
  united_forest n (s ∷ ss) u w h =
      let q = h s (Memᴰ.head refl) in
      united_forest n ss _ (uniting_keeps u.parents u.ranks n w _ _ q.0 q.1) (rest h)

  -- the roots take in each pair
  abbrev pub PairOf : List ℕ → ℕ → ℕ → Type 0
  PairOf ss i j = (s : ℕ) × Memᴰ s ss × (i ≡ at m.slot_cell s) × (j ≡ at m.slot_cell (reverse_slot t m s))

  pub united_labels : {E : ℕ → ℕ → Type 0} (n : ℕ) (ss : List ℕ) (u : United) → Forest u.parents u.ranks n → PairsHeld n ss → Labelled n E (root_of u.parents)
      → Labelled n (λ i j. E i j ⊎ PairOf ss i j) (root_of (unite_pairs t m ss u).parents)
  unfolding unite_pairs
  united_labels n [] u w h l = labelled_same (λ i j e. inl e) (λ i j e. only e) l
    where
      only : {A : Type 0} {i j : ℕ} → A ⊎ PairOf [] i j → A
      only (inl e) = e
      only (inr (s, k, x, y)) = absurd (Memᴰ.not-nil k)
  united_labels {E} n (s ∷ ss) u w h l =
      let q = h s (Memᴰ.head refl) in
      labelled_same (λ i j e. to i j e) (λ i j e. from i j e)
      (united_labels {E = With E (at m.slot_cell s) (at m.slot_cell (reverse_slot t m s))} n ss _ (uniting_keeps u.parents u.ranks n w _ _ q.0 q.1) (rest h) (uniting_labels u.parents u.ranks n w l _ _ q.0 q.1))
    where
      c : ℕ
      c = at m.slot_cell s

      d : ℕ
      d = at m.slot_cell (reverse_slot t m s)

      to : (i j : ℕ) → With E c d i j ⊎ PairOf ss i j → E i j ⊎ PairOf (s ∷ ss) i j
      to i j (inl (inl e)) = inl e
      to i j (inl (inr (x, y))) = inr (s, Memᴰ.head refl, x, y)
      to i j (inr (k, a, x, y)) = inr (k, Memᴰ.tail a, x, y)

      from : (i j : ℕ) → E i j ⊎ PairOf (s ∷ ss) i j → With E c d i j ⊎ PairOf ss i j
      from i j (inl e) = inl (inl e)
      from i j (inr (k, a, x, y)) = ⊎_elim
          (λ (e : k ≡ s). inl (inr (x ∙ ap (at m.slot_cell) e, y ∙ ap (λ (w : ℕ). at m.slot_cell (reverse_slot t m w)) e)))
          (λ (b : Memᴰ k ss). inr (k, b, x, y))
          (Memᴰ.cases_cons a)

  -- ---- the lengths

  pub united_length : (ss : List ℕ) (u : United) → length (unite_pairs t m ss u).parents ≡ length u.parents
  unfolding unite_pairs
  united_length [] u = refl
  united_length (s ∷ ss) u = united_length ss _ ∙ uniting_length u.parents u.ranks (at m.slot_cell s) (at m.slot_cell (reverse_slot t m s))
