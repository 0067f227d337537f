-- Union and a new place on parents that keep the rules.
--     hang_keeps       a root goes under another of no lower rank: the rules are kept
--     hang_low         the rank that grows stays within the places held
--     uniting_keeps    union keeps the rules
--     added_keeps      one more place, its own parent, of rank 0: the rules are kept
-- Assumes nothing.
use mathlib.Core.Path.{◌≡◌, refl, sym, ap, ◌∙◌}
use mathlib.Core.List.{List}
use mathlib.Core.Bool.{Bool, true, false, cond}
use Prim.Native.Nat.{ℕ, suc, ◌+◌, ◌≤◌, ◌<◌}
use native.Mathlib.Omega.{arith}
use lib.ListN.{length, set, length-set}
use lib.Seq.{get_or-set_same, get_or-set_other}
use lib.Dec.{ltb}
use borrow.Author.Tests.{eq-eqb, ne_eqb, ltb-true, ltb-false}
use Rattle.scope.specs.Lists.{at, total}
use Rattle.scope.specs.UnionFind.{finding, hang, unite_roots, uniting}
use Rattle.scope.specs.Rules.{root_count}
use Rattle.scope.proofs.Sums.{by_eq, total_term, total_same, total_change}
use Rattle.scope.proofs.Halving.{Forest, root_at, halve_keeps, halve_held, halve_root, halve_roots}

module _ (ps rs : List ℕ) (n : ℕ) (w : Forest ps rs n) (a b : ℕ) (ha : a < n) (hb : b < n)
    (ra : at ps a ≡ a) (rb : at ps b ≡ b) (ne : a ≡ b → ⊥) (le : at rs b ≤ at rs a) where
  rank_here : at (set rs a (at rs a + 1)) a ≡ at rs a + 1
  rank_here = get_or-set_same rs a (at rs a + 1) 0 (omega (arith, w.room, w.ranks))

  rank_there : (i : ℕ) → (i ≡ a → ⊥) → at (set rs a (at rs a + 1)) i ≡ at rs i
  rank_there i e = get_or-set_other rs a i (at rs a + 1) 0 e

  parent_here : at (set ps b a) b ≡ a
  parent_here = get_or-set_same ps b a 0 (omega (arith, w.room))

  parent_there : (i : ℕ) → (i ≡ b → ⊥) → at (set ps b a) i ≡ at ps i
  parent_there i e = get_or-set_other ps b i a 0 e

  -- A place's new rank is at least its old one.
  rank_grows : (i : ℕ) → at rs i ≤ at (set rs a (at rs a + 1)) i
  rank_grows i = by_eq i a (λ e. rw (e, rank_here) (omega arith)) (λ e. rw (rank_there i e) (omega arith))

  -- The ranks add up to one more, the roots to one less.
  rank_total : total (at (set rs a (at rs a + 1))) n ≡ total (at rs) n + 1
  rank_total = omega (arith, total_change (at rs) (at (set rs a (at rs a + 1))) n a ha (λ i l e. sym (rank_there i e)), rank_here)

  root_total : root_count (set ps b a) n + 1 ≡ root_count ps n
  root_total =
      let old : root_at ps b ≡ 1 = rw (eq-eqb (at ps b) b rb) in
      let new : root_at (set ps b a) b ≡ 0 = rw (parent_here, ne_eqb a b ne) in
      omega (arith, total_change (root_at ps) (root_at (set ps b a)) n b hb (λ i l e. rw (parent_there i e)), old, new)

  hang_rises : (i : ℕ) → i < n → (at (set ps b a) i ≡ i → ⊥) → at (set rs a (at rs a + 1)) i < at (set rs a (at rs a + 1)) (at (set ps b a) i)
  hang_rises i l r =
      by_eq i b
      (λ e. rw (e, parent_here, rank_here, rank_there b (λ z. ne (sym z))) (omega arith))
      (λ e.
      let p = parent_there i e in
      let q : at ps i ≡ i → ⊥ = λ z. r (p ∙ z) in
      let no : i ≡ a → ⊥ = λ z. q (ap (at ps) z ∙ ra ∙ sym z) in
      rw (p, rank_there i no) (omega (arith, w.rises i l q, rank_grows (at ps i))))

  pub hang_keeps : Forest (hang ps rs b a).parents (hang ps rs b a).ranks n
  hang_keeps = record {
    room = rw length-set w.room;
    ranks = simp length-set w.ranks;
    inside = λ i l. by_eq i b (λ e. rw (e, parent_here) ha) (λ e. rw (parent_there i e) (w.inside i l));
    rises = hang_rises;
    weight = omega (arith, rank_total, root_total, w.weight);
  }

-- The rank of a root can grow by one and stays within the places held.
pub hang_low : (ps rs : List ℕ) (n : ℕ) → Forest ps rs n → (a : ℕ) → a < n → at ps a ≡ a → at rs a + 1 ≤ n
hang_low ps rs n w a ha ra =
    let one : root_at ps a ≡ 1 = rw (eq-eqb (at ps a) a ra) in
    omega (arith, total_term (at rs) n a ha, total_term (root_at ps) n a ha, w.weight, one)

-- Of two roots either may be the higher.
roots_keep : (ps rs : List ℕ) (n : ℕ) → Forest ps rs n → (a b : ℕ) → a < n → b < n → at ps a ≡ a → at ps b ≡ b
    → Forest (unite_roots ps rs a b).parents (unite_roots ps rs a b).ranks n
roots_keep ps rs n w a b ha hb ra rb =
    by_eq a b (λ e. rw (eq-eqb a b e) w) (λ e. rw (ne_eqb a b e) (go e (ltb (at rs a) (at rs b)) refl))
  where
    go : (a ≡ b → ⊥) → (t : Bool) → ltb (at rs a) (at rs b) ≡ t
        → Forest (cond t (hang ps rs a b) (hang ps rs b a)).parents (cond t (hang ps rs a b) (hang ps rs b a)).ranks n
    go e true q = hang_keeps ps rs n w b a hb ha rb ra (λ z. e (sym z)) (let l = ltb-true (at rs a) (at rs b) q in omega arith)
    go e false q = hang_keeps ps rs n w a b ha hb ra rb e (ltb-false (at rs a) (at rs b) q)

pub uniting_keeps : (ps rs : List ℕ) (n : ℕ) → Forest ps rs n → (a b : ℕ) → a < n → b < n
    → Forest (uniting ps rs a b).parents (uniting ps rs a b).ranks n
unfolding uniting finding
uniting_keeps ps rs n w a b ha hb =
    let wa = halve_keeps rs n (length ps) ps w a ha in
    let k = length (finding ps a).parents in
    let ra = halve_root rs n (length ps) ps w a ha (omega (arith, w.room)) in
    roots_keep _ rs n (halve_keeps rs n k _ wa b hb) _ _ (halve_held rs n (length ps) ps w a ha) (halve_held rs n k _ wa b hb)
    (halve_roots k _ b _ ra) (halve_root rs n k _ wa b hb (omega (arith, wa.room)))

-- ---- a new place

module _ (ps rs : List ℕ) (n : ℕ) (w : Forest ps rs n) (more : n < length ps) where
  -- what is held stays as it was
  old_parent : (i : ℕ) → i < n → at (set ps n n) i ≡ at ps i
  old_parent i l = get_or-set_other ps n i n 0 (λ e. omega arith)

  old_rank : (i : ℕ) → i < n → at (set rs n 0) i ≡ at rs i
  old_rank i l = get_or-set_other rs n i 0 0 (λ e. omega arith)

  new_parent : at (set ps n n) n ≡ n
  new_parent = get_or-set_same ps n n 0 more

  new_rank : at (set rs n 0) n ≡ 0
  new_rank = get_or-set_same rs n 0 0 (omega (arith, w.ranks))

  added_weight : total (at (set rs n 0)) (suc n) + root_count (set ps n n) (suc n) ≤ suc n
  unfolding total
  added_weight =
      let one : root_at (set ps n n) n ≡ 1 = rw (eq-eqb (at (set ps n n) n) n new_parent) in
      omega (
        arith,
        total_same (at (set rs n 0)) (at rs) n old_rank,
        total_same (root_at (set ps n n)) (root_at ps) n (λ i l. rw (old_parent i l)),
        new_rank,
        one,
        w.weight,
      )

  pub added_keeps : Forest (set ps n n) (set rs n 0) (suc n)
  added_keeps = record {
    room = rw length-set (omega arith);
    ranks = simp length-set w.ranks;
    inside = λ i l. by_eq i n (λ e. rw (e, new_parent) (omega arith)) (λ e. let p = w.inside i (omega arith) in rw (old_parent i (omega arith)) (omega arith));
    rises = λ i l r. by_eq i n (λ e. absurd (r (ap (at (set ps n n)) e ∙ new_parent ∙ sym e)))
        (λ e. let p = w.inside i (omega arith) in
        rw (old_rank i (omega arith), old_parent i (omega arith), old_rank (at ps i) p) (w.rises i (omega arith) (λ z. r (old_parent i (omega arith) ∙ z))));
    weight = added_weight;
  }
