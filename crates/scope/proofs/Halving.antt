-- Find on parents that keep the rules: the first n places are held, each parent is held, along a parent the rank rises, and the ranks add up
-- to no more than the held places less the roots.
--     Forest           these rules, as a record
--     halve_more       more turns than there are places held change nothing; halve_turn, halve-stop: find as a loop
--     halve_keeps, halve_held, halve_root, halve_roots     find keeps the rules, answers a root that is held, and leaves every root a root
-- Assumes nothing.
use mathlib.Core.Path.{◌≡◌, refl, sym, ap, ◌∙◌}
use mathlib.Core.List.{List}
use mathlib.Core.Bool.{cond}
use Prim.Native.Nat.{ℕ, zero, suc, ◌+◌, ◌≤◌, ◌<◌}
use native.Mathlib.Omega.{arith}
use lib.ListN.{length, set, length-set}
use lib.Seq.{get_or-set_same, get_or-set_other}
use lib.Dec.{eqb}
use borrow.Author.Tests.{eq-eqb, ne_eqb}
use Rattle.scope.specs.Lists.{at, total}
use Rattle.scope.specs.UnionFind.{halve}
use Rattle.scope.specs.Rules.{root_count}
use Rattle.scope.proofs.Sums.{by_eq, total_term, total_same}

pub record Forest (ps rs : List ℕ) (n : ℕ) : Type 0 where
  pub room : n ≤ length ps
  pub ranks : length rs ≡ length ps
  pub inside : (i : ℕ) → i < n → at ps i < n
  pub rises : (i : ℕ) → i < n → (at ps i ≡ i → ⊥) → at rs i < at rs (at ps i)
  pub weight : total (at rs) n + root_count ps n ≤ n

-- 1 at a root, 0 elsewhere
abbrev pub root_at : List ℕ → ℕ → ℕ
root_at ps i = cond (eqb (at ps i) i) 1 0

module _ (rs : List ℕ) (n : ℕ) where
  -- A rank is at most the number held.
  pub rank_low : (ps : List ℕ) → Forest ps rs n → (i : ℕ) → i < n → at rs i ≤ n
  rank_low ps w i h = omega (arith, total_term (at rs) n i h, w.weight)

  module _ (ps : List ℕ) (w : Forest ps rs n) (a : ℕ) (h : a < n) where
    -- Two steps up from a place.
    pub up : at ps (at ps a) < n
    up = w.inside (at ps a) (w.inside a h)

    -- The rank rises from what is no root to its parent's parent.
    pub rises_two : (at ps a ≡ a → ⊥) → at rs a < at rs (at ps (at ps a))
    rises_two q =
        by_eq (at ps (at ps a)) (at ps a)
        (λ e. rw e (w.rises a h q))
        (λ e. omega (arith, w.rises a h q, w.rises (at ps a) (w.inside a h) e))

    -- What a turn of find leaves of the parents: at a, and elsewhere.
    pub turn_here : at (set ps a (at ps (at ps a))) a ≡ at ps (at ps a)
    turn_here = get_or-set_same ps a (at ps (at ps a)) 0 (omega (arith, w.room))

    pub turn_there : (i : ℕ) → (i ≡ a → ⊥) → at (set ps a (at ps (at ps a))) i ≡ at ps i
    turn_there i e = get_or-set_other ps a i (at ps (at ps a)) 0 e

    turn_roots : (at ps a ≡ a → ⊥) → (i : ℕ) → root_at (set ps a (at ps (at ps a))) i ≡ root_at ps i
    turn_roots q i =
        by_eq i a
        (λ e. rw (e, turn_here, ne_eqb (at ps (at ps a)) a (λ z. omega (arith, rises_two q, ap (at rs) z)), ne_eqb (at ps a) a q))
        (λ e. rw (turn_there i e))

    -- A turn of find keeps the rules.
    pub turn_keeps : (at ps a ≡ a → ⊥) → Forest (set ps a (at ps (at ps a))) rs n
    turn_keeps q = record {
      room = rw length-set w.room;
      ranks = rw length-set w.ranks;
      inside = λ i l. by_eq i a (λ e. rw (e, turn_here) up) (λ e. rw (turn_there i e) (w.inside i l));
      rises = λ i l r. by_eq i a (λ e. rw (e, turn_here) (rises_two q)) (λ e. rw (turn_there i e) (w.rises i l (λ z. r (turn_there i e ∙ z))));
      weight = rw (total_same _ (root_at ps) n (λ i l. turn_roots q i)) w.weight;
    }

  pub halve_more : (k : ℕ) (ps : List ℕ) → Forest ps rs n → (a : ℕ) → a < n → n ≤ k + at rs a → halve (suc k) ps a ≡ halve k ps a
  unfolding halve
  halve_more zero ps w a h m =
      by_eq (at ps a) a
      (λ e. rw (eq-eqb (at ps a) a e))
      (λ e. absurd (omega (arith, w.rises a h e, rank_low ps w (at ps a) (w.inside a h))))
  halve_more (suc k) ps w a h m =
      by_eq (at ps a) a
      (λ e. rw (eq-eqb (at ps a) a e))
      (λ e. rw (ne_eqb (at ps a) a e)
      (halve_more k (set ps a (at ps (at ps a))) (turn_keeps ps w a h e) (at ps (at ps a)) (up ps w a h) (omega (arith, rises_two ps w a h e))))

  -- With as many turns as places held or more, find takes a turn at what is no root, and stops at a root.
  pub halve_turn : (k : ℕ) (ps : List ℕ) → Forest ps rs n → (a : ℕ) → a < n → n ≤ k → (at ps a ≡ a → ⊥)
      → halve k ps a ≡ halve k (set ps a (at ps (at ps a))) (at ps (at ps a))
  unfolding halve
  halve_turn k ps w a h m e = sym (halve_more k ps w a h (omega arith)) ∙ rw (ne_eqb (at ps a) a e)

  pub halve_keeps : (k : ℕ) (ps : List ℕ) → Forest ps rs n → (a : ℕ) → a < n → Forest (halve k ps a).parents rs n
  unfolding halve
  halve_keeps zero ps w a h = w
  halve_keeps (suc k) ps w a h =
      by_eq (at ps a) a
      (λ e. rw (eq-eqb (at ps a) a e) w)
      (λ e. rw (ne_eqb (at ps a) a e) (halve_keeps k _ (turn_keeps ps w a h e) _ (up ps w a h)))

  pub halve_held : (k : ℕ) (ps : List ℕ) → Forest ps rs n → (a : ℕ) → a < n → (halve k ps a).root < n
  unfolding halve
  halve_held zero ps w a h = h
  halve_held (suc k) ps w a h =
      by_eq (at ps a) a
      (λ e. rw (eq-eqb (at ps a) a e) h)
      (λ e. rw (ne_eqb (at ps a) a e) (halve_held k _ (turn_keeps ps w a h e) _ (up ps w a h)))

  -- With turns enough the answer is a root of what is left.
  pub halve_root : (k : ℕ) (ps : List ℕ) → Forest ps rs n → (a : ℕ) → a < n → n ≤ k + at rs a
      → at (halve k ps a).parents (halve k ps a).root ≡ (halve k ps a).root
  unfolding halve
  halve_root zero ps w a h m =
      by_eq (at ps a) a (λ e. e) (λ e. absurd (omega (arith, w.rises a h e, rank_low ps w (at ps a) (w.inside a h))))
  halve_root (suc k) ps w a h m =
      by_eq (at ps a) a
      (λ e. rw (eq-eqb (at ps a) a e) e)
      (λ e. rw (ne_eqb (at ps a) a e) (halve_root k _ (turn_keeps ps w a h e) _ (up ps w a h) (omega (arith, rises_two ps w a h e))))

pub halve_stop : (k : ℕ) (ps : List ℕ) (a : ℕ) → at ps a ≡ a → halve k ps a ≡ record { root = a; parents = ps }
unfolding halve
halve_stop zero ps a e = refl
halve_stop (suc k) ps a e = rw (eq-eqb (at ps a) a e)

-- Find leaves a root a root.
pub halve_roots : (k : ℕ) (ps : List ℕ) (a i : ℕ) → at ps i ≡ i → at (halve k ps a).parents i ≡ i
unfolding halve
halve_roots zero ps a i r = r
halve_roots (suc k) ps a i r =
    by_eq (at ps a) a
    (λ e. rw (eq-eqb (at ps a) a e) r)
    (λ e. rw (ne_eqb (at ps a) a e) (halve_roots k _ _ i
    (get_or-set_other ps a i (at ps (at ps a)) 0 (λ z. e (ap (at ps) (sym z) ∙ r ∙ z)) ∙ r)))

-- Find leaves as many places.
pub halve_length : (k : ℕ) (ps : List ℕ) (a : ℕ) → length (halve k ps a).parents ≡ length ps
unfolding halve
halve_length zero ps a = refl
halve_length (suc k) ps a =
    by_eq (at ps a) a
    (λ e. rw (eq-eqb (at ps a) a e))
    (λ e. rw (ne_eqb (at ps a) a e) (halve_length k _ _ ∙ length-set ps a (at ps (at ps a))))
