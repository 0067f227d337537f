-- DEMAND 3, over an abstract state that holds what is worked out afresh from its cells.
--     same_rows, -links, -groups        IN WHATEVER ORDER: two states of the same cells hold the same rows, links and groups
--     ring_left                         a ring that holds no reverse of an edge of the new outline is left as it was
--     rows_afresh, link_afresh, ring_afresh, group_afresh     what is held is what the functions of Afresh compute
-- One more accepted cell is `holds_offer` of OneMore, and `ring_untouched` there says of each link what `ring_left` says of the ring.
-- Assumes nothing.
use mathlib.Core.Path.{◌≡◌, sym, ◌∙◌, subst}
use mathlib.Core.Logic.{◌↔◌}
use mathlib.Core.Bool.{not}
use mathlib.Core.List.{List, [], ◌∷◌, ◌++◌, Memᴰ}
use Prim.Native.Nat.{ℕ, suc, ◌<◌}
use lib.Dec.{eqb}
use lib.ListN.{length}
use Rattle.scope.specs.Lists.{at, first_bad}
use Rattle.scope.specs.Table.{Table, row_count, reverse_of, outline_rows}
use Rattle.scope.specs.Standing.{StandsIn, OneGroup, outlines}
use Rattle.scope.specs.Afresh.{successor, standing_rows, ring, group_place}
use Rattle.scope.proofs.Lands.{lands_unique}
use Rattle.scope.proofs.Cycle.{iter, iter_in, iter_same}
use Rattle.scope.proofs.Rings.{ring_same}
use Rattle.scope.proofs.Proper.{Proper, SameMembers, proper_front, proper_less}
use Rattle.scope.proofs.OrderFree.{stands_free, successor_free, group_free}
use Rattle.scope.proofs.Agree.{stands_test, successor_agrees, successor_permutes, standing_permutes, rows_agree}
use Rattle.scope.proofs.Groups.{group_by}
use Rattle.scope.proofs.States.{State, Holds, Beside, PairsGone}
use Rattle.scope.proofs.OneMore.{ring_untouched}

-- ---- in whatever order

module _ {t : Table} {cs ds : List ℕ} {s u : State} (P : Proper t cs) (Q : Proper t ds) (E : SameMembers cs ds) (K : Holds t cs s) (L : Holds t ds u) where
  pub same_rows : (a : ℕ) → s.has a → u.has a
  same_rows a h = L.all a (stands_free t E a (K.stands a h))

  pub same_links : (a : ℕ) → s.has a → s.link a ≡ u.link a
  same_links a h = lands_unique (successor_free P Q E a (s.link a) (K.stands a h).0 (K.links a h)) (L.links a (same_rows a h))

  -- two cells have one root in both or in neither, wherever they stand in the lists
  pub same_groups : (i j k l : ℕ) → i < length cs → j < length cs → k < length ds → l < length ds → at cs i ≡ at ds k → at cs j ≡ at ds l
      → (s.root i ≡ s.root j) ↔ (u.root k ≡ u.root l)
  same_groups i j k l hi hj hk hl d e = (
    λ r. (L.groups k l hk hl).1 (move d e (group_free t E.0 ((K.groups i j hi hj).0 r))),
    λ r. (K.groups i j hi hj).1 (move (sym d) (sym e) (group_free t E.1 ((L.groups k l hk hl).0 r))),
  )
    where
      move : {cs : List ℕ} {x y v w : ℕ} → x ≡ v → y ≡ w → OneGroup t cs x y → OneGroup t cs v w
      move {cs} {y = y} {v = v} p q g = subst (OneGroup t cs v) q (subst (λ (z : ℕ). OneGroup t cs z y) p g)

-- ---- worked out afresh

module _ {t : Table} {cs : List ℕ} {s : State} (P : Proper t cs) (K : Holds t cs s) where
  pub rows_afresh : (a : ℕ) → s.has a ↔ Memᴰ a (standing_rows t cs)
  rows_afresh a = (λ h. (rows_agree P a).1 (K.stands a h), λ m. K.all a ((rows_agree P a).0 m))

  pub link_afresh : (a : ℕ) → s.has a → s.link a ≡ successor t cs a
  link_afresh a h = lands_unique (K.links a h) (successor_agrees P a (K.stands a h))

  pub ring_afresh : (a : ℕ) → s.has a → ring (row_count t) s.link a ≡ ring (row_count t) (successor t cs) a
  ring_afresh a h = ring_same (standing_permutes P) s.link a (stands_test (outlines t cs) (reverse_of t) a (K.stands a h))
      (λ k. link_afresh (iter (successor t cs) k a) (K.all (iter (successor t cs) k a) (iter_in (successor_permutes P) k a (K.stands a h))))

  pub group_afresh : (i : ℕ) → i < length cs → first_bad (λ j. not (eqb (s.root j) (s.root i))) (length cs) ≡ group_place t cs i
  group_afresh i h = group_by t cs P.distinct s.root K.groups i h

-- ---- untouched rings

module _ {t : Table} {cs : List ℕ} {x : ℕ} {s s₀ s' : State} (P : Proper t (cs ++ (x ∷ []))) (K : Holds t cs s) (B : Beside t x (length cs) s s₀)
    (C : PairsGone t (suc (length cs)) s₀ s') where
  pub ring_left : (a : ℕ) → s.has a → ((k : ℕ) → Memᴰ (reverse_of t (iter s.link k a)) (outline_rows t x) → ⊥) → ring (row_count t) s'.link a ≡ ring (row_count t) s.link a
  ring_left a h n =
      ring_same (standing_permutes Q) s'.link a (stands_test (outlines t cs) (reverse_of t) a (K.stands a h)) (λ k. subst (λ (b : ℕ). s'.link b ≡ successor t cs b) (along k) (kept k))
      ∙ sym (ring_afresh Q K a h)
    where
      Q : Proper t cs
      Q = proper_less (proper_front cs x P)

      stood : (k : ℕ) → StandsIn t cs (iter (successor t cs) k a)
      stood k = iter_in (successor_permutes Q) k a (K.stands a h)

      along : (k : ℕ) → iter s.link k a ≡ iter (successor t cs) k a
      along k = iter_same (successor t cs) s.link a (λ k. link_afresh Q K (iter (successor t cs) k a) (K.all (iter (successor t cs) k a) (stood k))) k

      kept : (k : ℕ) → s'.link (iter s.link k a) ≡ successor t cs (iter s.link k a)
      kept k =
          (ring_untouched (proper_front cs x P) K B C a h n k).1
          ∙ link_afresh Q K (iter s.link k a) (K.all (iter s.link k a) (subst (StandsIn t cs) (sym (along k)) (stood k)))
