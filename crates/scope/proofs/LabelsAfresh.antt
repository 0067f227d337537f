-- The labels worked out afresh: `label_all` takes in every pair of touching cells.
--     touch_test, test_touch     `touches` is `Touch`
--     TouchAt t cs p q           the cells at two places touch
--     labels_agree               two places have one label of `label_all` exactly when a chain of such pairs joins them
-- Assumes nothing.
use mathlib.Core.Path.{◌≡◌, refl, sym, ◌∙◌, subst}
use mathlib.Core.Logic.{◌⊎◌, inl, inr, ⊎_elim}
use mathlib.Core.Bool.{Bool, true, false, ◌||◌, cond}
use mathlib.Core.List.{List, [], ◌∷◌, Memᴰ}
use Prim.Native.Nat.{ℕ, zero, suc, ◌≤◌, ◌<◌}
use native.Mathlib.Omega.{arith}
use borrow.Author.Tests.{eq-eqb, ne_eqb}
use lib.Dec.{eqb}
use lib.ListN.{length, length-map}
use Rattle.scope.specs.Lists.{at, member, tabulate}
use Rattle.scope.specs.Table.{Table, reverse_of, outline_rows}
use Rattle.scope.specs.Standing.{Touch}
use Rattle.scope.specs.Afresh.{some_reverse, touches, relabel, label_with, label_all}
use Rattle.scope.proofs.Tests.{either, clash}
use Rattle.scope.proofs.Members.{cases, member_true, member_mem}
use Rattle.scope.proofs.Below.{tabulate_length, tabulate_at}
use Rattle.scope.proofs.Labels.{Labelled, labelled_same, labelled_none, Merges, With, labelled_pair}

-- ---- touching cells

some_test : (t : Table) (a : ℕ) (o p : List ℕ) → Memᴰ a o → Memᴰ (reverse_of t a) p → some_reverse t o p ≡ true
unfolding some_reverse
some_test t a o p (Memᴰ.head {x = x} {xs = xs} e) m = rw (member_true (subst (λ (w : ℕ). Memᴰ (reverse_of t w) p) e m))
some_test t a o p (Memᴰ.tail {x = x} {xs = xs} i) m = go (member (reverse_of t x) p) (some_test t a xs p i m)
  where
    go : (b : Bool) → some_reverse t xs p ≡ true → (b || some_reverse t xs p) ≡ true
    go true e = refl
    go false e = e

test_some : (t : Table) (o p : List ℕ) → some_reverse t o p ≡ true → (a : ℕ) × Memᴰ a o × Memᴰ (reverse_of t a) p
unfolding some_reverse
test_some t [] p e = absurd (clash e refl)
test_some t (a ∷ o) p e =
    ⊎_elim
    (λ (b : member (reverse_of t a) p ≡ true). (a, Memᴰ.head refl, member_mem (reverse_of t a) p b))
    (λ (b : member (reverse_of t a) p ≡ false). let r = test_some t o p (rw b at e) in (r.0, Memᴰ.tail r.1, r.2))
    (either (member (reverse_of t a) p))

module _ (t : Table) (x y : ℕ) where
  pub touch_test : Touch t x y → touches t x y ≡ true
  unfolding touches
  touch_test (a, i, j) = some_test t a (outline_rows t x) (outline_rows t y) i j

  pub test_touch : touches t x y ≡ true → Touch t x y
  unfolding touches
  test_touch e = test_some t (outline_rows t x) (outline_rows t y) e

-- ---- labels

-- the two places hold touching cells
abbrev pub TouchAt : Table → List ℕ → ℕ → ℕ → Type 0
TouchAt t cs p q = (p < length cs) × (q < length cs) × Touch t (at cs p) (at cs q)

-- of these the pairs that label_all has seen before place i, and in row i before place j
abbrev Seen : Table → List ℕ → ℕ → ℕ → ℕ → ℕ → Type 0
Seen t cs i j p q = TouchAt t cs p q × ((p < i) ⊎ ((p ≡ i) × (q < j)))

-- `relabel` merges two labels
relabel_at : (a b : ℕ) (l : List ℕ) (p : ℕ) → p < length l → at (relabel a b l) p ≡ cond (eqb (at l p) b) a (at l p)
unfolding relabel
relabel_at a b [] p h = absurd (omega arith)
relabel_at a b (x ∷ l) zero h = refl
relabel_at a b (x ∷ l) (suc p) h = relabel_at a b l p (omega arith)

length_relabel : (a b : ℕ) (l : List ℕ) → length (relabel a b l) ≡ length l
unfolding relabel
length_relabel a b l = length-map l (λ c. cond (eqb c b) a c)

relabel_merges : (a b n : ℕ) (l : List ℕ) → length l ≡ n → Merges n (at l) (at (relabel a b l)) b a
relabel_merges a b n l e = record {
  moved = λ p h d. relabel_at a b l p (omega arith) ∙ rw (eq-eqb (at l p) b d);
  stayed = λ p h d. relabel_at a b l p (omega arith) ∙ rw (ne_eqb (at l p) b d);
}

-- the labels in a list, one for each cell
abbrev Labels : Table → List ℕ → ℕ → ℕ → List ℕ → Type 0
Labels t cs i j l = (length l ≡ length cs) × Labelled (length cs) (Seen t cs i j) (at l)

module _ (t : Table) (cs : List ℕ) where
  seen_mono : (i j p q : ℕ) → Seen t cs i j p q → Seen t cs i (suc j) p q
  seen_mono i j p q (e, inl h) = (e, inl h)
  seen_mono i j p q (e, inr (d, h)) = (e, inr (d, omega arith))

  seen_split : (i j p q : ℕ) → Seen t cs i (suc j) p q → With (Seen t cs i j) i j p q
  seen_split i j p q (e, inl h) = inl (e, inl h)
  seen_split i j p q (e, inr (d, h)) = cases q j (λ z. inr (d, z)) (λ z. inl (e, inr (d, omega arith)))

  -- one place more: the pair is taken in where the two cells touch
  step_labels : (i j : ℕ) (l : List ℕ) → i < length cs → j < length cs → Labels t cs i j (label_with t cs i j l) → Labels t cs i (suc j) (label_with t cs i (suc j) l)
  unfolding label_with
  step_labels i j l hi hj (e, K) = ⊎_elim
      (λ (d : touches t (at cs i) (at cs j) ≡ true). rw d (
        length_relabel _ _ k ∙ e,
        labelled_same (λ p q s. grown d p q s) (seen_split i j) (labelled_pair K (relabel_merges (at k i) (at k j) (length cs) k e) i j hi hj (inr (refl, refl))),
      ))
      (λ (d : touches t (at cs i) (at cs j) ≡ false). rw d (e, labelled_same (seen_mono i j) (λ p q s. old d p q s (seen_split i j p q s)) K))
      (either (touches t (at cs i) (at cs j)))
    where
      k : List ℕ
      k = label_with t cs i j l

      grown : touches t (at cs i) (at cs j) ≡ true → (p q : ℕ) → With (Seen t cs i j) i j p q → Seen t cs i (suc j) p q
      grown d p q (inl s) = seen_mono i j p q s
      grown d p q (inr (x, y)) = rw (x, y) ((hi, hj, test_touch t (at cs i) (at cs j) d), inr (refl, omega arith))

      old : touches t (at cs i) (at cs j) ≡ false → (p q : ℕ) → Seen t cs i (suc j) p q → With (Seen t cs i j) i j p q → Seen t cs i j p q
      old d p q s (inl k) = k
      old d p q s (inr (x, y)) = absurd (clash (touch_test t (at cs i) (at cs j) (rw (x, y) at s.0.2)) d)

  with_labels : (i j : ℕ) (l : List ℕ) → i < length cs → j ≤ length cs → Labels t cs i 0 l → Labels t cs i j (label_with t cs i j l)
  with_labels i zero l hi hj L = unfold label_with in L
  with_labels i (suc j) l hi hj L = step_labels i j l hi hj (with_labels i j l hi (omega arith) L)

  all_labels : (i : ℕ) → i ≤ length cs → Labels t cs i 0 (label_all t cs i)
  unfolding label_all
  all_labels zero h = (tabulate_length (λ i. i) 0 (length cs), labelled_none (length cs) own (λ p q s. none p q s.1))
    where
      own : (p q : ℕ) → p < length cs → q < length cs → at (tabulate (λ i. i) (length cs)) p ≡ at (tabulate (λ i. i) (length cs)) q → p ≡ q
      own p q h k e = sym (tabulate_at (λ i. i) (length cs) p h) ∙ e ∙ tabulate_at (λ i. i) (length cs) q k

      none : (p q : ℕ) → (p < 0) ⊎ ((p ≡ 0) × (q < 0)) → ⊥
      none p q (inl h) = omega arith
      none p q (inr h) = omega (arith, h.1)
  all_labels (suc i) h =
      let L = with_labels i (length cs) (label_all t cs i) h (omega arith) (all_labels i (omega arith)) in
      (L.0, labelled_same to from L.1)
    where
      to : (p q : ℕ) → Seen t cs i (length cs) p q → Seen t cs (suc i) 0 p q
      to p q (e, inl k) = (e, inl (omega arith))
      to p q (e, inr (d, k)) = (e, inl (omega arith))

      from : (p q : ℕ) → Seen t cs (suc i) 0 p q → Seen t cs i (length cs) p q
      from p q (e, inl k) = cases p i (λ d. (e, inr (d, e.1))) (λ d. (e, inl (omega arith)))
      from p q (e, inr (d, k)) = absurd (omega arith)

  -- ALL PAIRS
  pub labels_agree : Labelled (length cs) (TouchAt t cs) (at (label_all t cs (length cs)))
  labels_agree = labelled_same (λ p q s. s.0) (λ p q e. (e, inl e.0)) (all_labels (length cs) (omega arith)).1
