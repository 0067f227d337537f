-- The root by a walk that changes nothing: find answers the same root, and leaves every place's root as it was.
--     climb_more       more steps than there are places held change nothing; climb_on, climb-end: the walk as a loop
--     climb_turn       a turn of find leaves every root as it was
--     find_climbs      find answers the root of the walk
--     find_same        find leaves every place's root as it was
-- Assumes nothing.
use mathlib.Core.Path.{◌≡◌, refl, sym, ap, ◌∙◌}
use mathlib.Core.List.{List}
use Prim.Native.Nat.{ℕ, zero, suc, ◌+◌, ◌≤◌, ◌<◌}
use native.Mathlib.Omega.{arith}
use lib.ListN.{length, set}
use borrow.Author.Tests.{eq-eqb, ne_eqb}
use Rattle.scope.specs.Lists.{at}
use Rattle.scope.specs.UnionFind.{halve, climb, finding, root_of}
use Rattle.scope.proofs.Sums.{by_eq}
use Rattle.scope.proofs.Halving.{Forest, rank_low, up, rises_two, turn_here, turn_there, turn_keeps, halve_length}

climb_none : (ps : List ℕ) (a : ℕ) → climb zero ps a ≡ a
unfolding climb
climb_none ps a = refl

-- A step up, where it can be taken.
climb_step : (k : ℕ) (ps : List ℕ) (a : ℕ) → (at ps a ≡ a → ⊥) → climb (suc k) ps a ≡ climb k ps (at ps a)
unfolding climb
climb_step k ps a e = rw (ne_eqb (at ps a) a e)

-- At a root none is taken.
pub climb_end : (k : ℕ) (ps : List ℕ) (a : ℕ) → at ps a ≡ a → climb k ps a ≡ a
unfolding climb
climb_end zero ps a e = refl
climb_end (suc k) ps a e = rw (eq-eqb (at ps a) a e)

module _ (rs : List ℕ) (n : ℕ) where
  -- More steps than the rank leaves room for change nothing.
  pub climb_more : (k : ℕ) (ps : List ℕ) → Forest ps rs n → (a : ℕ) → a < n → n ≤ k + at rs a → climb (suc k) ps a ≡ climb k ps a
  unfolding climb
  climb_more zero ps w a h m =
      by_eq (at ps a) a
      (λ e. rw (eq-eqb (at ps a) a e))
      (λ e. absurd (omega (arith, w.rises a h e, rank_low rs n ps w (at ps a) (w.inside a h))))
  climb_more (suc k) ps w a h m =
      by_eq (at ps a) a
      (λ e. rw (eq-eqb (at ps a) a e))
      (λ e. rw (ne_eqb (at ps a) a e) (climb_more k ps w (at ps a) (w.inside a h) (omega (arith, w.rises a h e))))

  -- With steps enough a step changes nothing.
  pub climb_on : (k : ℕ) (ps : List ℕ) → Forest ps rs n → (a : ℕ) → a < n → n ≤ k → (at ps a ≡ a → ⊥) → climb k ps (at ps a) ≡ climb k ps a
  climb_on k ps w a h m e = sym (climb_step k ps a e) ∙ climb_more k ps w a h (omega arith)

  pub climb_held : (k : ℕ) (ps : List ℕ) → Forest ps rs n → (a : ℕ) → a < n → climb k ps a < n
  unfolding climb
  climb_held zero ps w a h = h
  climb_held (suc k) ps w a h =
      by_eq (at ps a) a
      (λ e. rw (eq-eqb (at ps a) a e) h)
      (λ e. rw (ne_eqb (at ps a) a e) (climb_held k ps w (at ps a) (w.inside a h)))

  module _ (ps : List ℕ) (w : Forest ps rs n) (a : ℕ) (h : a < n) (q : at ps a ≡ a → ⊥) where
    -- From the parent and from its parent the root is the same.
    climb_two : (k : ℕ) → n ≤ suc k + at rs a → climb k ps (at ps a) ≡ climb k ps (at ps (at ps a))
    climb_two k m =
        by_eq (at ps (at ps a)) (at ps a)
        (λ e. ap (climb k ps) (sym e))
        (λ e. sym (climb_more k ps w (at ps a) (w.inside a h) (omega (arith, w.rises a h q))) ∙ climb_step k ps (at ps a) e)

    pub climb_turn : (k i : ℕ) → i < n → n ≤ k + at rs i → climb k (set ps a (at ps (at ps a))) i ≡ climb k ps i
    climb_turn zero i l m = climb_none (set ps a (at ps (at ps a))) i ∙ sym (climb_none ps i)
    climb_turn (suc k) i l m =
        by_eq i a
        (λ e.
        let here : at (set ps a (at ps (at ps a))) i ≡ at ps (at ps a) = rw (e, turn_here rs n ps w a h) in
        let ri : at rs i ≡ at rs a = ap (at rs) e in
        let moved : at (set ps a (at ps (at ps a))) i ≡ i → ⊥ = λ z. omega (arith, rises_two rs n ps w a h q, ap (at rs) (sym here ∙ z ∙ e)) in
        climb_step k _ i moved
        ∙ ap (climb k (set ps a (at ps (at ps a)))) here
        ∙ climb_turn k (at ps (at ps a)) (up rs n ps w a h) (omega (arith, rises_two rs n ps w a h q, ri))
        ∙ sym (climb_two k (omega (arith, ri)))
        ∙ sym (climb_step k ps a q)
        ∙ ap (climb (suc k) ps) (sym e))
        (λ e. by_eq (at ps i) i
        (λ z. climb_end (suc k) _ i (turn_there rs n ps w a h i e ∙ z) ∙ sym (climb_end (suc k) ps i z))
        (λ z. climb_step k _ i (λ y. z (sym (turn_there rs n ps w a h i e) ∙ y))
        ∙ ap (climb k (set ps a (at ps (at ps a)))) (turn_there rs n ps w a h i e)
        ∙ climb_turn k (at ps i) (w.inside i l) (omega (arith, w.rises i l z))
        ∙ sym (climb_step k ps i z)))

  halve_climbs : (k : ℕ) (ps : List ℕ) → Forest ps rs n → (a : ℕ) → a < n → n ≤ k + at rs a → (halve k ps a).root ≡ climb k ps a
  unfolding halve climb
  halve_climbs zero ps w a h m = refl
  halve_climbs (suc k) ps w a h m =
      by_eq (at ps a) a
      (λ e. rw (eq-eqb (at ps a) a e))
      (λ e. rw (ne_eqb (at ps a) a e)
      (halve_climbs k (set ps a (at ps (at ps a))) (turn_keeps rs n ps w a h e) (at ps (at ps a)) (up rs n ps w a h) (omega (arith, rises_two rs n ps w a h e))
      ∙ climb_turn ps w a h e k (at ps (at ps a)) (up rs n ps w a h) (omega (arith, rises_two rs n ps w a h e))
      ∙ sym (climb_two ps w a h e k m)))

  halve_same : (k : ℕ) (ps : List ℕ) → Forest ps rs n → (a : ℕ) → a < n → (j i : ℕ) → i < n → n ≤ j → climb j (halve k ps a).parents i ≡ climb j ps i
  unfolding halve
  halve_same zero ps w a h j i l m = refl
  halve_same (suc k) ps w a h j i l m =
      by_eq (at ps a) a
      (λ e. rw (eq-eqb (at ps a) a e))
      (λ e. rw (ne_eqb (at ps a) a e)
      (halve_same k _ (turn_keeps rs n ps w a h e) _ (up rs n ps w a h) j i l m ∙ climb_turn ps w a h e j i l (omega arith)))

  pub find_climbs : (ps : List ℕ) → Forest ps rs n → (a : ℕ) → a < n → (finding ps a).root ≡ root_of ps a
  unfolding finding root_of
  find_climbs ps w a h = halve_climbs (length ps) ps w a h (omega (arith, w.room))

  pub find_same : (ps : List ℕ) → Forest ps rs n → (a : ℕ) → a < n → (i : ℕ) → i < n → root_of (finding ps a).parents i ≡ root_of ps i
  unfolding finding root_of
  find_same ps w a h i l =
      ap (λ (j : ℕ). climb j (halve (length ps) ps a).parents i) (halve_length (length ps) ps a)
      ∙ halve_same (length ps) ps w a h (length ps) i l w.room
