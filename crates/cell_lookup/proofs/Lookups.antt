-- What the first place from a cell on tells: whether an equal cell is among the first of the part, and whether the cell lies under one of it.
-- Assumes nothing.
use Prim.Native.Nat.{ℕ, ◌^◌, ◌<◌, ◌≤◌}
use mathlib.Core.Path.{◌≡◌, sym, ◌∙◌, ap}
use mathlib.Core.Bool.{Bool, true, false, ◌&&◌, ◌||◌, not}
use mathlib.Core.List.{List}
use mathlib.Core.Logic.{⊎_elim}
use native.Mathlib.Nat.{eq-or-lt_of_le}
use native.Mathlib.Omega.{arith}
use lib.Dec.{eqb, leb, ltb}
use lib.ListN.{length}
use borrow.Author.Tests.{eq-eqb, ne_eqb, lt-ltb, le-ltb, le-leb, lt-leb, eqb-true, eqb-false, ltb-true, ltb-false}
use Rattle.scope.specs.Lists.{at, first_bad}
use Rattle.scope.specs.Cells.{valid_cell, under}
use Rattle.scope.specs.CellLists.{not_under}
use Rattle.scope.proofs.Tests.{either, clash, and_false, le_or_lt}
use Rattle.scope.proofs.Scan.{first_bad_lowest, passes_all, passes_not}
use Rattle.cell_lookup.specs.Order.{key_of, rank, place}
use Rattle.cell_lookup.specs.Lookup.{Ascending, key_below, differs_before, new_to, Ordered, LookedUp, clear_of, Raised, LookedOver}
use Rattle.cell_lookup.proofs.Places.{place_is}
use Rattle.cell_lookup.proofs.Ranks.{rank_key, rank_index}
use Rattle.cell_lookup.proofs.Blocks.{same_key, under_below, between, under_trans}

module _ {part a : List ℕ} (O : Ordered part a) where
  small : (p : ℕ) → p < length part → at a p < 2 ^ 32
  small p h = let b = O.sorted.perm.below p h in omega (arith, O.few)

  pub ordered_ascending : Ascending part a
  ordered_ascending = record {
    room = O.sorted.perm.room;
    below = O.sorted.perm.below;
    order = λ p q h l. ⊎_elim
        (λ e. rw e (omega arith))
        (λ g. rank_key part (at a p) (at a q) (small q l) (O.sorted.order p q g l))
        (eq-or-lt_of_le h);
  }

-- ---- equal cells

module _ (part a : List ℕ) (x count p : ℕ) (U : LookedUp part a x) (e : p ≡ first_bad (key_below part a x) (length part)) where
  O : Ordered part a
  O = U.ordered

  -- a cell equal to x stands from p on
  from_first : (j : ℕ) → j < length part → at part j ≡ x → p ≤ place (length part) a j
  from_first j h z = ⊎_elim (λ l. l)
      (λ (l : place (length part) a j < p).
      let b : key_of (at part (at a (place (length part) a j))) < key_of x =
      ltb-true _ _ ((first_bad_lowest (key_below part a x) (length part)).before (place (length part) a j) (omega arith)) in
      let s : key_of (at part (at a (place (length part) a j))) ≡ key_of x = ap key_of (ap (at part) (place_is O.sorted.perm j h) ∙ z) in
      absurd (omega arith))
      (le_or_lt p (place (length part) a j))

  pub new_none : length part ≤ p → true ≡ new_to part x count
  new_none h = sym (passes_all (differs_before part x count) (length part) (λ j l.
      ap not (ap (λ (b : Bool). ltb j count && b)
      (ne_eqb (at part j) x (λ z. let f = from_first j l z in let g = O.sorted.perm.each j l in omega arith)) ∙ and_false (ltb j count))))

  module _ (h : p < length part) where
    first_key : key_of x ≤ key_of (at part (at a p))
    first_key = ltb-false _ _ (rw (← e) at ((first_bad_lowest (key_below part a x) (length part)).here (omega arith)))

    -- where a cell is x, the one at p is x, and its index is no higher
    first_is : (j : ℕ) → j < length part → at part j ≡ x → (at part (at a p) ≡ x) × (at a p ≤ j)
    first_is j l z =
        let q : ℕ = place (length part) a j in
        let qn : q < length part = O.sorted.perm.each j l in
        let at_q : at a q ≡ j = place_is O.sorted.perm j l in
        let pq : p ≤ q = from_first j l z in
        let ordered : rank part (at a p) ≤ rank part (at a q) = ⊎_elim (λ s. rw s (omega arith)) (λ g. O.sorted.order p q g qn) (eq-or-lt_of_le pq) in
        let key_q : key_of (at part (at a q)) ≡ key_of x = ap key_of (ap (at part) at_q ∙ z) in
        let keys : key_of (at part (at a p)) ≡ key_of x = pinned _ _ _ (rank_key part (at a p) (at a q) (small O q qn) ordered) key_q first_key in
        let index = rank_index part (at a p) (at a q) (small O q qn) ordered (keys ∙ sym key_q) in (
          same_key (at part (at a p)) x (O.valid (at a p) (O.sorted.perm.below p h)) U.valid keys,
          omega arith,
        )
      where
        pinned : (u v w : ℕ) → u ≤ v → v ≡ w → w ≤ u → u ≡ w
        pinned u v w s t r = omega arith

    -- a cell that is not x, or stands no earlier
    other : (j : ℕ) → j < length part → (at part j ≡ x → count ≤ j) → differs_before part x count j ≡ true
    other j l f = ⊎_elim
        (λ t. let g = f (eqb-true (at part j) x t) in ap (λ (b : Bool). not (b && eqb (at part j) x)) (le-ltb j count g))
        (λ t. ap (λ (b : Bool). not (ltb j count && b)) t ∙ ap not (and_false (ltb j count)))
        (either (eqb (at part j) x))

    pub new_at : (not (eqb (at part (at a p)) x) || leb count (at a p)) ≡ new_to part x count
    new_at = ⊎_elim
        (λ (t : eqb (at part (at a p)) x ≡ true). rw t (⊎_elim
        (λ (g : count ≤ at a p). le-leb count (at a p) g
        ∙ sym (passes_all (differs_before part x count) (length part) (λ j l. other j l (λ z. let i = (first_is j l z).1 in omega arith))))
        (λ (g : at a p < count). lt-leb count (at a p) g
        ∙ sym (passes_not (differs_before part x count) (length part) (at a p) (O.sorted.perm.below p h) (rw (lt-ltb (at a p) count g, t))))
        (le_or_lt count (at a p))))
        (λ (t : eqb (at part (at a p)) x ≡ false). rw t
        (sym (passes_all (differs_before part x count) (length part) (λ j l. other j l (λ z. absurd (clash (eq-eqb _ _ (first_is j l z).0) t))))))
        (either (eqb (at part (at a p)) x))

-- ---- cells over another

module _ (part a : List ℕ) (x p : ℕ) (U : LookedOver part a x) (e : p ≡ first_bad (key_below part a x) (length part)) where
  R : Raised part a
  R = U.raised

  -- a cell over x lies under one that is named from p on, or is it
  module _ (j : ℕ) (h : j < length part) (u : under x (at part j) ≡ true) where
    top_over : under x (at part (at a (R.over j))) ≡ true
    top_over = ⊎_elim (λ z. rw z at u) (λ z. under_trans x (at part j) (at part (at a (R.over j))) u z) (R.over_is j h)

    over_from : p ≤ R.over j
    over_from = ⊎_elim (λ l. l)
        (λ (l : R.over j < p).
        let i : R.over j < length part = R.over_in j h in
        let b : key_of (at part (at a (R.over j))) < key_of x = ltb-true _ _ ((first_bad_lowest (key_below part a x) (length part)).before (R.over j) (omega arith)) in
        let g = under_below x (at part (at a (R.over j))) U.valid (R.valid _ (R.ascending.below (R.over j) i)) top_over in
        absurd (omega arith))
        (le_or_lt p (R.over j))

    first_over : p < length part → under x (at part (at a p)) ≡ true
    first_over l =
        let q : ℕ = R.over j in
        let qn : q < length part = R.over_in j h in
        let named : (r : ℕ) → r < length part → valid_cell (at part (at a r)) ≡ true = λ r s. R.valid (at a r) (R.ascending.below r s) in
        let key_p : key_of x ≤ key_of (at part (at a p)) = ltb-false _ _ (rw (← e) at ((first_bad_lowest (key_below part a x) (length part)).here (omega arith))) in
        ⊎_elim
        (λ t. rw (eqb-true (at part (at a p)) (at part (at a q)) t) top_over)
        (λ t. absurd (clash
        (between x (at part (at a p)) (at part (at a q)) (named p l) (named q qn) top_over key_p (R.ascending.order p q over_from qn) (eqb-false (at part (at a p)) (at part (at a q)) t))
        (R.top p (at a q) l (R.ascending.below q qn))))
        (either (eqb (at part (at a p)) (at part (at a q))))

  pub clear_none : length part ≤ p → true ≡ clear_of part x
  clear_none h = sym (passes_all (not_under part x) (length part) (λ j l. ⊎_elim
      (λ u. absurd (let f = over_from j l u in let i = R.over_in j l in omega arith))
      (λ u. ap not u)
      (either (under x (at part j)))))

  pub clear_at : p < length part → not (under x (at part (at a p))) ≡ clear_of part x
  clear_at h = ⊎_elim
      (λ (t : under x (at part (at a p)) ≡ true). rw t (sym (passes_not (not_under part x) (length part) (at a p) (R.ascending.below p h) (ap not t))))
      (λ (t : under x (at part (at a p)) ≡ false). rw t (sym (passes_all (not_under part x) (length part) (λ j l. ⊎_elim
      (λ u. absurd (clash (first_over j l u h) t))
      (λ u. ap not u)
      (either (under x (at part j)))))))
      (either (under x (at part (at a p))))
