-- Union, by the labels that the roots are: one pair more is taken in.
--     root_is, roots_are     the root that `root_of` computes is where following the parents lands
--     uniting_labels         where the roots tell what chains of pairs join, they tell it after a union, for the united pair too
--     uniting_length         no place more or less
-- Assumes nothing.
use mathlib.Core.Path.{◌≡◌, refl, sym, ◌∙◌, subst}
use mathlib.Core.Logic.{◌⊎◌, inl, inr, ◌≢◌}
use mathlib.Core.Bool.{Bool, true, false, cond}
use mathlib.Core.List.{List}
use Prim.Native.Nat.{ℕ, zero, suc, ◌+◌, ◌≤◌, ◌<◌}
use native.Mathlib.Omega.{arith}
use lib.ListN.{length, set, length-set}
use lib.Dec.{eqb, ltb}
use borrow.Author.Tests.{eq-eqb, ne_eqb, ltb-true, ltb-false}
use Rattle.scope.specs.Lists.{at}
use Rattle.scope.specs.Standing.{here, on}
use Rattle.scope.specs.UnionFind.{climb, finding, root_of, hang, unite_roots, uniting}
use Rattle.scope.proofs.Lands.{lands_stop}
use Rattle.scope.proofs.Members.{cases, put_set}
use Rattle.scope.proofs.Labels.{Labelled, labelled_alike, labelled_pair, With}
use Rattle.scope.proofs.Forest as Parents
use Rattle.scope.proofs.Halving.{Forest, rank_low, halve_keeps, halve_length}
use Rattle.scope.proofs.Climb.{climb_held, find_climbs, find_same}
use Rattle.scope.proofs.Unions.{hang_keeps}

module _ {ps rs : List ℕ} {n : ℕ} (w : Forest ps rs n) where
  climb_lands : (k a : ℕ) → a < n → n ≤ k + at rs a → Parents.Root (at ps) a (climb k ps a)
  unfolding climb
  climb_lands zero a h m = cases (at ps a) a (λ e. here e) (λ e. absurd (omega (arith, w.rises a h e, rank_low rs n ps w (at ps a) (w.inside a h))))
  climb_lands (suc k) a h m = cases (at ps a) a
      (λ e. rw (eq-eqb (at ps a) a e) (here e))
      (λ e. rw (ne_eqb (at ps a) a e) (on e (climb_lands k (at ps a) (w.inside a h) (omega (arith, w.rises a h e)))))

  pub root_is : (a : ℕ) → a < n → Parents.Root (at ps) a (root_of ps a)
  unfolding root_of
  root_is a h = climb_lands (length ps) a h (omega (arith, w.room))

  pub roots_are : Parents.Roots n (at ps) (root_of ps)
  roots_are = record { is = root_is }

  pub parents_are : Parents.Forest n (at rs) (at ps)
  parents_are = record { par_in = w.inside; rises = w.rises }

  root_held : (a : ℕ) → a < n → root_of ps a < n
  unfolding root_of
  root_held a h = climb_held rs n (length ps) ps w a h

  root_root : (a : ℕ) → a < n → at ps (root_of ps a) ≡ root_of ps a
  root_root a h = lands_stop (root_is a h)

-- ---- union

-- the root low goes under top
hung_labels : {E : ℕ → ℕ → Type 0} (ps rs : List ℕ) (n : ℕ) → Forest ps rs n → Labelled n E (root_of ps) → (low top : ℕ) → low < n → top < n
    → at ps low ≡ low → at ps top ≡ top → low ≢ top → at rs low ≤ at rs top → (i j : ℕ) → i < n → j < n
    → ((root_of ps i ≡ low) × (root_of ps j ≡ top)) ⊎ ((root_of ps j ≡ low) × (root_of ps i ≡ top)) → Labelled n (With E i j) (root_of (set ps low top))
hung_labels ps rs n w l low top hl ht rl rt ne le i j hi hj way =
    labelled_pair l (Parents.unite_merges (parents_are w) hl ht rl rt ne (put_set ps low top (omega (arith, w.room)))
    (roots_are w) (roots_are (hang_keeps ps rs n w top low ht hl rt rl (λ e. ne (sym e)) le))) i j hi hj way

roots_labels : {E : ℕ → ℕ → Type 0} (ps rs : List ℕ) (n : ℕ) → Forest ps rs n → Labelled n E (root_of ps) → (a b r s : ℕ) → a < n → b < n → root_of ps a ≡ r
    → root_of ps b ≡ s → Labelled n (With E a b) (root_of (unite_roots ps rs r s).parents)
roots_labels {E} ps rs n w l a b r s ha hb ea eb = cases r s
    (λ e. rw (eq-eqb r s e) (labelled_pair l (record { moved = λ i h q. q; stayed = λ i h q. refl }) a b ha hb (inl (ea, eb ∙ sym e))))
    (λ e. rw (ne_eqb r s e) (go e (ltb (at rs r) (at rs s)) refl))
  where
    held : {c k : ℕ} → c < n → root_of ps c ≡ k → k < n
    held {c} h e = subst (λ (k : ℕ). k < n) e (root_held w c h)

    root : {c k : ℕ} → c < n → root_of ps c ≡ k → at ps k ≡ k
    root {c} h e = subst (λ (k : ℕ). at ps k ≡ k) e (root_root w c h)

    go : r ≢ s → (t : Bool) → ltb (at rs r) (at rs s) ≡ t → Labelled n (With E a b) (root_of (cond t (hang ps rs r s) (hang ps rs s r)).parents)
    go e true q =
        let k = ltb-true (at rs r) (at rs s) q in
        hung_labels ps rs n w l r s (held ha ea) (held hb eb) (root ha ea) (root hb eb) e (omega arith) a b ha hb (inl (ea, eb))
    go e false q =
        hung_labels ps rs n w l s r (held hb eb) (held ha ea) (root hb eb) (root ha ea) (λ z. e (sym z)) (ltb-false (at rs r) (at rs s) q) a b ha hb (inr (eb, ea))

found : (rs : List ℕ) (n : ℕ) (ps : List ℕ) → Forest ps rs n → (a : ℕ) → a < n → Forest (finding ps a).parents rs n
unfolding finding
found rs n ps w a h = halve_keeps rs n (length ps) ps w a h

pub uniting_labels : {E : ℕ → ℕ → Type 0} (ps rs : List ℕ) (n : ℕ) → Forest ps rs n → Labelled n E (root_of ps) → (a b : ℕ) → a < n → b < n
    → Labelled n (With E a b) (root_of (uniting ps rs a b).parents)
unfolding uniting
uniting_labels ps rs n w l a b ha hb =
    let fa = finding ps a in
    let fb = finding fa.parents b in
    let wa = found rs n ps w a ha in
    let same₂ = find_same rs n fa.parents wa b hb in
    let same : (i : ℕ) → i < n → root_of fb.parents i ≡ root_of ps i = λ i h. same₂ i h ∙ find_same rs n ps w a ha i h in
    roots_labels fb.parents rs n (found rs n fa.parents wa b hb) (labelled_alike same l) a b fa.root fb.root ha hb
    (same a ha ∙ sym (find_climbs rs n ps w a ha)) (same₂ b hb ∙ sym (find_climbs rs n fa.parents wa b hb))

pub uniting_length : (ps rs : List ℕ) (a b : ℕ) → length (uniting ps rs a b).parents ≡ length ps
unfolding uniting finding
uniting_length ps rs a b =
    let fa = finding ps a in
    let fb = finding fa.parents b in
    go (eqb fa.root fb.root) (ltb (at rs fa.root) (at rs fb.root)) fb.parents fa.root fb.root
    ∙ halve_length (length fa.parents) fa.parents b ∙ halve_length (length ps) ps a
  where
    go : (c d : Bool) (qs : List ℕ) (x y : ℕ) → length (cond c (record { parents = qs; ranks = rs }) (cond d (hang qs rs x y) (hang qs rs y x))).parents ≡ length qs
    go true d qs x y = refl
    go false true qs x y = length-set qs x y
    go false false qs x y = length-set qs y x
