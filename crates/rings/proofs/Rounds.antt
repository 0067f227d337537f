-- Going round a ring: the next rows permute the rows that stand, and a loop that starts at a row comes back to it after one period.
--     next_in           the places that the step to the next row reads; slot_after, the same step by slots
--     links_permute     the step permutes the rows that stand
--     Round             where such a loop stands: after k steps, with `more` for whether it goes on; round_start, round_next, its moves
--     ring_length, ring_rows     what it passed is the ring
-- Assumes nothing.
use Prim.Native.Nat.{ℕ, ◌+◌, ◌-◌, ◌≤◌, ◌<◌}
use mathlib.Core.Path.{◌≡◌, refl, sym, ◌∙◌, ap, subst}
use mathlib.Core.Bool.{Bool, true, false, not}
use mathlib.Core.Logic.{◌≢◌}
use mathlib.Core.List.{List}
use native.Mathlib.Numerals.{add-one}
use native.Mathlib.Omega.{arith}
use borrow.Author.Tests.{eqb-true, eqb-false, not-true, not-false}
use lib.Dec.{eqb}
use lib.ListN.{length}
use Rattle.scope.specs.Lists.{at}
use Rattle.scope.specs.Order.{stands_at, next_row}
use Rattle.scope.proofs.Tests.{clash}
use Rattle.scope.proofs.Rules.{not_zero, zero_not}
use Rattle.scope.proofs.Linked.{at_in}
use Rattle.scope.proofs.Cycle.{iter, iter_zero, iter_last, iter_in, orbit, orbit_length, Period, Permutes, period, period_most}
use Rattle.scope.proofs.Rings.{ring_orbit}
use Rattle.rings.specs.Links.{ring_in, Links, OnRing, NextSlot}

-- ---- the step

module _ {row_slot slot_row next : List ℕ} (L : Links row_slot slot_row next) where
  slot_used : (r : ℕ) → at row_slot r ≢ 0 → at slot_row (at row_slot r - 1) ≢ 0
  slot_used r h = let e = L.row_held r h in omega arith

  pub next_in : (r : ℕ) → at row_slot r ≢ 0
      → (r < length row_slot) × (at row_slot r - 1 < length next) × (at next (at row_slot r - 1) < length slot_row) × (at slot_row (at next (at row_slot r - 1)) ≢ 0)
  next_in r h =
      let u = L.next_used (at row_slot r - 1) (slot_used r h) in
      let a = at_in slot_row (at row_slot r - 1) (slot_used r h) in
      let e = L.slots in
      (at_in row_slot r h, omega arith, at_in slot_row (at next (at row_slot r - 1)) u, u)

  next_slot : (r : ℕ) → at row_slot r ≢ 0 → at row_slot (next_row row_slot slot_row next r) ≡ at next (at row_slot r - 1) + 1
  next_slot r h = L.slot_held (at next (at row_slot r - 1)) (L.next_used (at row_slot r - 1) (slot_used r h))

  pub next_stands : (r : ℕ) → at row_slot r ≢ 0 → at row_slot (next_row row_slot slot_row next r) ≢ 0
  next_stands r h = let e = next_slot r h in omega arith

  -- the step by slots: the slot after a row's is the next row's
  pub slot_after : (r : ℕ) → at row_slot r ≢ 0 → {slot s : ℕ} → slot ≡ at row_slot r - 1 → s ≡ at next slot → NextSlot row_slot slot_row next r s
  slot_after r h {slot} {s} e f =
      let q : s ≡ at next (at row_slot r - 1) = f ∙ ap (at next) e in
      record {
        used = λ z. L.next_used (at row_slot r - 1) (slot_used r h) (sym (ap (at slot_row) q) ∙ z);
        row = ap (λ (t : ℕ). at slot_row t - 1) q;
        own = rw q (let n = next_slot r h in omega (arith, n));
      }

  pub links_permute : Permutes (length row_slot) (λ a. stands_at row_slot a ≡ true) (next_row row_slot slot_row next)
  links_permute = record {
    small = λ a u. at_in row_slot a (not_zero (at row_slot a) u);
    keeps = λ a u. zero_not (at row_slot (next_row row_slot slot_row next a)) (next_stands a (not_zero (at row_slot a) u));
    injects = λ a b u v e.
        let h = not_zero (at row_slot a) u in
        let k = not_zero (at row_slot b) v in
        let p : at next (at row_slot a - 1) + 1 ≡ at next (at row_slot b - 1) + 1 = sym (next_slot a h) ∙ ap (at row_slot) e ∙ next_slot b k in
        let q = L.next_once (at row_slot a - 1) (at row_slot b - 1) (slot_used a h) (slot_used b k) (omega arith) in
        let s : a + 1 ≡ b + 1 = sym (L.row_held a h) ∙ ap (at slot_row) q ∙ L.row_held b k in
        omega arith;
  }

-- ---- once round

module _ {row_slot slot_row next : List ℕ} {r : ℕ} (O : OnRing row_slot slot_row next r) where
  on_true : stands_at row_slot r ≡ true
  on_true = zero_not (at row_slot r) O.stands

  pub turns : ℕ
  turns = (period (links_permute O.links) r on_true).0

  pub turns_period : Period (next_row row_slot slot_row next) r turns
  unfolding turns
  turns_period = (period (links_permute O.links) r on_true).1

  pub turns_most : turns ≤ length row_slot
  turns_most = period_most (links_permute O.links) r turns on_true turns_period

  pub ring_rows : ring_in row_slot slot_row next r ≡ orbit (next_row row_slot slot_row next) turns r
  ring_rows = let h = turns_most in ring_orbit (length row_slot) (next_row row_slot slot_row next) r turns turns_period (omega arith)

  pub ring_length : length (ring_in row_slot slot_row next r) ≡ turns
  ring_length = ap length ring_rows ∙ orbit_length (next_row row_slot slot_row next) turns r

pub record Round (row_slot slot_row next : List ℕ) (r k x : ℕ) (more : Bool) : Type 0 where
  pub on : OnRing row_slot slot_row next r
  pub x_is : x ≡ iter (next_row row_slot slot_row next) k r
  pub goes : more ≡ true → k < turns on
  pub ends : more ≡ false → k ≡ turns on

pub round_start : {row_slot slot_row next : List ℕ} {r : ℕ} → OnRing row_slot slot_row next r → Round row_slot slot_row next r 0 r true
round_start {row_slot} {slot_row} {next} {r} O = record {
  on = O;
  x_is = sym (iter_zero (next_row row_slot slot_row next) r);
  goes = λ e. (turns_period O).some;
  ends = λ e. absurd (clash refl e);
}

module _ {row_slot slot_row next : List ℕ} {r k x : ℕ} {more : Bool} (R : Round row_slot slot_row next r k x more) where
  pub round_on : OnRing row_slot slot_row next x
  round_on = record {
    links = R.on.links;
    stands = not_zero (at row_slot x) (subst (λ (z : ℕ). stands_at row_slot z ≡ true) (sym R.x_is) (iter_in (links_permute R.on.links) k r (on_true R.on)));
  }

  pub round_low : x < length row_slot
  round_low = at_in row_slot x round_on.stands

  -- a step more than k is not too many
  pub round_most : more ≡ true → k < length row_slot
  round_most e = let a = R.goes e in let b = turns_most R.on in omega arith

  pub round_next : more ≡ true → (y : ℕ) → y ≡ next_row row_slot slot_row next x → Round row_slot slot_row next r (k + 1) y (not (eqb y r))
  round_next e y f = record {
    on = R.on;
    x_is = y_is;
    goes = λ q. let g = R.goes e in
        let z : k + 1 ≢ turns R.on = λ s. eqb-false y r (not-true (eqb y r) q) (y_is ∙ ap (λ (a : ℕ). iter (next_row row_slot slot_row next) a r) s ∙ (turns_period R.on).back) in
        omega arith;
    ends = λ q. let g = R.goes e in
        let z : k + 1 < turns R.on → ⊥ = λ l. (turns_period R.on).least (k + 1) (omega arith) l (sym y_is ∙ eqb-true y r (not-false (eqb y r) q)) in
        omega arith;
  }
    where
      y_is : y ≡ iter (next_row row_slot slot_row next) (k + 1) r
      y_is = f ∙ ap (next_row row_slot slot_row next) R.x_is ∙ sym (iter_last (next_row row_slot slot_row next) k r)
          ∙ ap (λ (a : ℕ). iter (next_row row_slot slot_row next) a r) (sym (add-one k))
