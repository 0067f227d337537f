-- The chains of seats: they hold of no cell, one more cell keeps them, and a walk along one that ends shows that a cell is new.
--     chained_start, chained_more     the chains of no cell, and of one more
--     Ahead                           no cell from `last` on is x, and `last` is 0 or names a cell of x's seat
--     ahead_start, ahead_step, ahead_end     the walk along a chain
--     Joining, joining_start, -more, -end    the loop over the cells
--     apart_found                     where every two cells differ, no cell has an equal before it
-- Assumes nothing.
use Prim.Native.Nat.{ℕ, ◌+◌, ◌-◌, ◌<◌, ◌≤◌}
use mathlib.Core.Path.{◌≡◌, refl, sym, ◌∙◌, ap, subst}
use mathlib.Core.Bool.{Bool, true, false, not}
use mathlib.Core.List.{List}
use Rattle.std.specs.Prelude.{Option, None}
use mathlib.Core.Logic.{◌⊎◌, inl, inr, ⊎_elim}
use native.Mathlib.Nat.{eq-or-lt_of_le}
use native.Mathlib.Omega.{arith}
use lib.Dec.{eqb}
use lib.ListN.{length, get_or, set, replicate, get_or-replicate, length-replicate, length-set, get_or-eq_default, get_or-map, length-map}
use Rattle.std.proofs.lemmas.List.{map-set}
use lib.Seq.{get_or-set_same, get_or-set_other}
use borrow.Author.Tests.{lt-ltb, le-ltb, ne_eqb, eqb-true, eqb-false, not-false}
use Rattle.scope.specs.Answers.{found_below}
use Rattle.scope.specs.Lists.{at, first_bad}
use Rattle.scope.proofs.Tests.{either, clash, le_or_lt}
use Rattle.scope.proofs.Scan.{lowest_from, passes_all}
use Rattle.validate.proofs.Lowest.{no_index}
use Rattle.validate.specs.Parts.{repeats, none_before, Found}
use Rattle.validate.specs.Chains.{seat_of, number, numbers, Chained, NewIn, Apart, Shows, AsksNew, AsksLink, Linked, ChainRoom}

-- ---- the chains

pub seat_below : (x : ℕ) → seat_of x < 8192
unfolding seat_of
seat_below x = omega arith

pub cleared : (n h : ℕ) → at (numbers (replicate n None)) h ≡ 0
cleared n h =
    let none : Option ℕ = None in
    get_or-map number (replicate n none) h none ∙ ap number (⊎_elim
    (λ (l : n ≤ h). get_or-eq_default (replicate n none) none (rw (length-replicate n none) l))
    (λ (l : h < n). get_or-replicate n h none none l)
    (le_or_lt n h))

pub chained_start : {cs links heads : List ℕ} → ((h : ℕ) → at heads h ≡ 0) → Chained cs heads links 0
chained_start clear = record {
  head_gap = λ h j l k. absurd (omega arith);
  head_in = λ h. let z = clear h in omega arith;
  head_seat = λ h l. absurd (let z = clear h in omega arith);
  link_gap = λ p j k. absurd (omega arith);
  link_in = λ p k. absurd (omega arith);
  link_seat = λ p k. absurd (omega arith);
}

same_or_not : (a b : ℕ) → (a ≡ b) ⊎ (a ≡ b → ⊥)
same_or_not a b = ⊎_elim (λ t. inl (eqb-true a b t)) (λ t. inr (eqb-false a b t)) (either (eqb a b))

module _ {cs heads links : List ℕ} {n : ℕ} (C : Chained cs heads links n) (here : seat_of (at cs n) < length heads) (room : n < length links) where
  abbrev s : ℕ
  s = seat_of (at cs n)

  abbrev heads' : List ℕ
  heads' = set heads s (n + 1)

  abbrev links' : List ℕ
  links' = set links n (at heads s)

  upto : (j : ℕ) → j < n + 1 → (j ≡ n) ⊎ (j < n)
  upto j k = eq-or-lt_of_le (omega arith)

  head_same : at heads' s ≡ n + 1
  head_same = get_or-set_same heads s (n + 1) 0 here

  head_other : (h : ℕ) → (h ≡ s → ⊥) → at heads' h ≡ at heads h
  head_other h d = get_or-set_other heads s h (n + 1) 0 d

  link_same : at links' n ≡ at heads s
  link_same = get_or-set_same links n (at heads s) 0 room

  link_other : (p : ℕ) → p < n → at links' p ≡ at links p
  link_other p h = get_or-set_other links n p (at heads s) 0 (λ e. absurd (omega arith))

  gap : (h j : ℕ) → at heads' h ≤ j → j < n + 1 → seat_of (at cs j) ≡ h → ⊥
  gap h j l k e = ⊎_elim
      (λ (q : h ≡ s). let f : at heads' h ≡ n + 1 = ap (at heads') q ∙ head_same in absurd (omega arith))
      (λ (q : h ≡ s → ⊥). ⊎_elim
      (λ (m : j ≡ n). q (sym e ∙ ap (λ (i : ℕ). seat_of (at cs i)) m))
      (λ (m : j < n). let f = head_other h q in C.head_gap h j (omega arith) m e)
      (upto j k))
      (same_or_not h s)

  within : (h : ℕ) → at heads' h ≤ n + 1
  within h = ⊎_elim
      (λ (q : h ≡ s). let f : at heads' h ≡ n + 1 = ap (at heads') q ∙ head_same in omega arith)
      (λ (q : h ≡ s → ⊥). let f = head_other h q in let g = C.head_in h in omega arith)
      (same_or_not h s)

  seat : (h : ℕ) → 0 < at heads' h → seat_of (at cs (at heads' h - 1)) ≡ h
  seat h l = ⊎_elim
      (λ (q : h ≡ s).
      let g : at heads' h ≡ n + 1 = ap (at heads') q ∙ head_same in
      let f : at heads' h - 1 ≡ n = omega arith in
      ap (λ (i : ℕ). seat_of (at cs i)) f ∙ sym q)
      (λ (q : h ≡ s → ⊥). let f = head_other h q in let g : 0 < at heads h = omega arith in rw f (C.head_seat h g))
      (same_or_not h s)

  pub chained_more : Chained cs heads' links' (n + 1)
  chained_more = record {
    head_gap = gap;
    head_in = within;
    head_seat = seat;
    link_gap = λ p j k l m e. ⊎_elim
        (λ (q : p ≡ n). C.head_gap s j (let f : at links' p ≡ at heads s = ap (at links') q ∙ link_same in omega arith) (omega arith)
        (e ∙ ap (λ (i : ℕ). seat_of (at cs i)) q))
        (λ (q : p < n). C.link_gap p j q (let f = link_other p q in omega arith) m e)
        (upto p k);
    link_in = λ p k. ⊎_elim
        (λ (q : p ≡ n). let f : at links' p ≡ at heads s = ap (at links') q ∙ link_same in let g = C.head_in s in omega arith)
        (λ (q : p < n). let f = link_other p q in let g = C.link_in p q in omega arith)
        (upto p k);
    link_seat = λ p k l. ⊎_elim
        (λ (q : p ≡ n). let f : at links' p ≡ at heads s = ap (at links') q ∙ link_same in
        let g : 0 < at heads s = omega arith in
        rw f (C.head_seat s g) ∙ ap (λ (i : ℕ). seat_of (at cs i)) (sym q))
        (λ (q : p < n). let f = link_other p q in let g : 0 < at links p = omega arith in rw f (C.link_seat p q g))
        (upto p k);
  }

-- ---- a walk along a chain

pub record Ahead (cs : List ℕ) (n x last : ℕ) : Type 0 where
  pub within : last ≤ n
  pub differ : (j : ℕ) → last ≤ j → j < n → at cs j ≡ x → ⊥
  pub seat : 0 < last → seat_of (at cs (last - 1)) ≡ seat_of x

module _ {cs heads links : List ℕ} {n : ℕ} (C : Chained cs heads links n) {x : ℕ} where
  pub ahead_start : Ahead cs n x (at heads (seat_of x))
  ahead_start = record {
    within = C.head_in (seat_of x);
    differ = λ j l k e. C.head_gap (seat_of x) j l k (ap seat_of e);
    seat = C.head_seat (seat_of x);
  }

  pub ahead_step : {last : ℕ} → Ahead cs n x last → 0 < last → (at cs (last - 1) ≡ x → ⊥) → Ahead cs n x (at links (last - 1))
  ahead_step {last} A h d =
      let p : last - 1 < n = omega (arith, A.within) in
      record {
        within = let l = C.link_in (last - 1) p in omega arith;
        differ = λ j l k e. ⊎_elim
            (λ (g : last ≤ j). A.differ j g k e)
            (λ (g : j < last). ⊎_elim
            (λ (q : j ≡ last - 1). d (ap (at cs) (sym q) ∙ e))
            (λ (q : j < last - 1). C.link_gap (last - 1) j p l q (ap seat_of e ∙ sym (A.seat h)))
            (before j g))
            (le_or_lt last j);
        seat = λ l. C.link_seat (last - 1) p l ∙ A.seat h;
      }
    where
      before : (j : ℕ) → j < last → (j ≡ last - 1) ⊎ (j < last - 1)
      before j g = eq-or-lt_of_le (omega arith)

-- the same in the arrays
module _ {cs : List ℕ} (heads links : List (Option ℕ)) {n : ℕ} (C : Chained cs (numbers heads) (numbers links) n) {x : ℕ} where
  pub ahead_first : Ahead cs n x (number (get_or heads (seat_of x) None))
  ahead_first = subst (λ (k : ℕ). Ahead cs n x k) (get_or-map number heads (seat_of x) None) (ahead_start C)

  pub ahead_more : (before : ℕ) → Ahead cs n x (before + 1) → (at cs before ≡ x → ⊥) → Ahead cs n x (number (get_or links before None))
  ahead_more before A d =
      let e : before + 1 - 1 ≡ before = omega arith in
      subst (λ (k : ℕ). Ahead cs n x k) (get_or-map number links before None) (rw e at (ahead_step C A (omega arith) (rw e d)))

pub ahead_end : {cs : List ℕ} {n x last : ℕ} → Ahead cs n x last → last ≡ 0 → NewIn cs n x
ahead_end A z = record { differs = λ j h e. A.differ j (omega arith) h e }

-- ---- every two cells

-- cleared arrays, with a place for every cell
pub chain_room : {cs : List ℕ} (n : ℕ) → n ≤ 16384 → length cs ≤ n → ChainRoom cs (replicate 8192 None) (replicate n None)
chain_room {cs} n m h = let z : Option ℕ = None in record {
  seats = length-replicate 8192 z;
  heads_clear = cleared 8192;
  room = rw (length-replicate n z) h;
  few = omega arith;
}

-- the first i cells are chained, and every two of them differ
pub record Joining (cs : List ℕ) (heads links links₀ : List (Option ℕ)) (i : ℕ) : Type 0 where
  pub heads_long : length heads ≡ 8192
  pub links_long : length links ≡ length links₀
  pub within : i ≤ length cs
  pub chained : Chained cs (numbers heads) (numbers links) i
  pub apart : (k : ℕ) → k < i → NewIn cs k (at cs k)

module _ {cs : List ℕ} {heads₀ links₀ : List (Option ℕ)} (R : ChainRoom cs heads₀ links₀) where
  pub joining_start : Joining cs heads₀ links₀ links₀ 0
  joining_start = record {
    heads_long = R.seats;
    links_long = refl;
    within = omega arith;
    chained = chained_start R.heads_clear;
    apart = λ k h. absurd (omega arith);
  }

  module _ {heads links : List (Option ℕ)} {i : ℕ} (J : Joining cs heads links links₀ i) where
    pub joining_asks : i < length cs → AsksNew cs heads links i
    joining_asks h = record {
      seats = J.heads_long;
      room = omega (arith, J.links_long, R.room);
      within = J.within;
      chained = J.chained;
    }

    pub joining_room : i < length cs → AsksLink heads links i
    joining_room h = record { seats = J.heads_long; room = omega (arith, J.links_long, R.room); few = omega (arith, R.few) }

    pub joining_more : i < length cs → {b : Bool} → Shows b (NewIn cs i (at cs i)) → not b ≡ false
        → {heads' links' : List (Option ℕ)} → Linked (at cs i) i heads links heads' links' → Joining cs heads' links' links₀ (i + 1)
    joining_more h {b} S t {heads'} {links'} L = record {
      heads_long = rw (L.heads_is, length-set) J.heads_long;
      links_long = rw (L.links_is, length-set) J.links_long;
      within = omega arith;
      chained = rw (L.heads_is, L.links_is, map-set number heads, map-set number links, ← get_or-map number heads (seat_of (at cs i)) None)
          (chained_more J.chained (rw (length-map heads number, J.heads_long) (seat_below (at cs i))) (rw (length-map links number) (omega (arith, J.links_long, R.room))));
      apart = λ k l. ⊎_elim
          (λ (e : k ≡ i). rw e (S.shown (not-false b t)))
          (λ (e : k < i). J.apart k e)
          (eq-or-lt_of_le (le_of l));
    }
      where
        le_of : {k : ℕ} → k < i + 1 → k ≤ i
        le_of l = omega arith

pub joining_end : {cs : List ℕ} {heads links links₀ : List (Option ℕ)} {i : ℕ} → Joining cs heads links links₀ i → length cs ≤ i → Apart cs
joining_end J h = record { differ = λ k l. J.apart k (omega arith) }

pub apart_found : {cs : List ℕ} {mixed : Bool} → Apart cs → mixed ≡ false → Found cs (length cs) mixed None None
apart_found {cs} {mixed} A m = record {
  second_is = sym (ap (found_below (length cs)) (sym last) ∙ no_index (length cs));
  nested_is = sym (rw m);
}
  where
    none : (i j : ℕ) → i < length cs → not (repeats cs i j) ≡ true
    none i j h = ⊎_elim
        (λ (g : i ≤ j). rw (le-ltb j i g))
        (λ (g : j < i). rw (lt-ltb j i g, ne_eqb (at cs j) (at cs i) ((A.differ i h).differs j g)))
        (le_or_lt i j)

    last : length cs ≡ first_bad (none_before (repeats cs) (length cs)) (length cs)
    last = lowest_from (none_before (repeats cs) (length cs)) (length cs) (length cs) (omega arith)
        (λ k h e. absurd (clash (passes_all (λ j. not (repeats cs k j)) (length cs) (λ j l. none k j h)) e))
        (λ h. absurd (omega arith))
