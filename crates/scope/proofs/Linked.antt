-- Slots and rows that point at each other, and links that go round: what a state has whose pairs may yet cancel.
--     Used m s, Has m r      a slot is in use, a row has a slot; `used_true`, `has_true`: as tests
--     Linked t m             the used slots and the rows that have one name each other; the links are inverse on the used slots
--     row_slot, slot_row     there and back again
--     cancels-..             a slot that cancels is used, and the reverse of its row has a slot
--     linked_paired          the slots that cancel are paired up, as the laws of Returns ask
-- Assumes nothing.
use mathlib.Core.Path.{◌≡◌, sym, ◌∙◌, ap, subst}
use mathlib.Core.Logic.{◌≢◌, ⊎_elim}
use mathlib.Core.Bool.{true, false, not}
use mathlib.Core.List.{List}
use Prim.Native.Nat.{ℕ, ◌+◌, ◌<◌}
use native.Mathlib.Omega.{arith}
use lib.ListN.{length, get_or-eq_default}
use borrow.Author.Tests.{not-true}
use Rattle.scope.specs.Lists.{at}
use Rattle.scope.specs.Table.{Table, row_count, reverse_of}
use Rattle.scope.specs.Memory.{Memory, slots, is_used, row_in, has_slot, slot_of}
use Rattle.scope.specs.Pool.{reverse_held, reverse_slot, cancels, stays}
use Rattle.scope.proofs.Tests.{either, clash, le_or_lt, and_left, and_right, and_both}
use Rattle.scope.proofs.Rules.{not_zero, zero_not}
use Rattle.scope.proofs.Successor.{Reverses}
use Rattle.scope.proofs.Returns.{Paired}

-- past the end there is 0
pub at_in : (l : List ℕ) (i : ℕ) → at l i ≢ 0 → i < length l
at_in l i n = ⊎_elim (λ h. absurd (n (get_or-eq_default l 0 h))) (λ h. h) (le_or_lt (length l) i)

abbrev pub Used : Memory → ℕ → Type 0
Used m s = at m.slot_row s ≢ 0

abbrev pub Has : Memory → ℕ → Type 0
Has m r = at m.row_slot r ≢ 0

pub used_true : (m : Memory) (s : ℕ) → Used m s → is_used m s ≡ true
used_true m s u = zero_not (at m.slot_row s) u

pub true_used : (m : Memory) (s : ℕ) → is_used m s ≡ true → Used m s
true_used m s e = not_zero (at m.slot_row s) e

pub has_true : (m : Memory) (r : ℕ) → Has m r → has_slot m r ≡ true
has_true m r h = zero_not (at m.row_slot r) h

pub true_has : (m : Memory) (r : ℕ) → has_slot m r ≡ true → Has m r
true_has m r e = not_zero (at m.row_slot r) e

pub has_false : (m : Memory) (r : ℕ) → (Has m r → ⊥) → has_slot m r ≡ false
has_false m r n = ⊎_elim (λ e. absurd (n (true_has m r e))) (λ e. e) (either (has_slot m r))

pub has_dec : (m : Memory) (r : ℕ) → Dec (Has m r)
has_dec m r = ⊎_elim (λ e. yes (true_has m r e)) (λ e. no (λ h. clash (has_true m r h) e)) (either (has_slot m r))

pub record Linked (t : Table) (m : Memory) : Type 0 where
  pub row_count : length m.row_slot ≡ row_count t
  pub row_held : (r : ℕ) → Has m r → at m.slot_row (slot_of m r) ≡ r + 1
  pub slot_held : (s : ℕ) → Used m s → at m.row_slot (row_in m s) ≡ s + 1
  pub next_used : (s : ℕ) → Used m s → Used m (at m.next s)
  pub prev_used : (s : ℕ) → Used m s → Used m (at m.prev s)
  pub prev_next : (s : ℕ) → Used m s → at m.prev (at m.next s) ≡ s
  pub next_prev : (s : ℕ) → Used m s → at m.next (at m.prev s) ≡ s

-- ---- there and back again

module _ {t : Table} {m : Memory} (L : Linked t m) where
  pub has_in : (r : ℕ) → Has m r → r < row_count t
  has_in r h = let k = at_in m.row_slot r h in let c = L.row_count in omega arith

  pub slot_used : (r : ℕ) → Has m r → Used m (slot_of m r)
  slot_used r h e = let k = L.row_held r h in omega arith

  pub row_has : (s : ℕ) → Used m s → Has m (row_in m s)
  row_has s u e = let k = L.slot_held s u in omega arith

  pub row_slot : (r : ℕ) → Has m r → row_in m (slot_of m r) ≡ r
  row_slot r h = let k = L.row_held r h in omega arith

  pub slot_row : (s : ℕ) → Used m s → slot_of m (row_in m s) ≡ s
  slot_row s u = let k = L.slot_held s u in omega arith

-- ---- a slot that cancels

pub cancels_used : (t : Table) (m : Memory) (s : ℕ) → cancels t m s ≡ true → Used m s
cancels_used t m s e = true_used m s (and_left (is_used m s) (reverse_held t m s) e)

pub cancels_has : (t : Table) (m : Memory) (s : ℕ) → cancels t m s ≡ true → Has m (reverse_of t (row_in m s))
cancels_has t m s e = true_has m (reverse_of t (row_in m s)) (and_right (is_used m s) (reverse_held t m s) e)

pub cancels_from : (t : Table) (m : Memory) (s : ℕ) → Used m s → Has m (reverse_of t (row_in m s)) → cancels t m s ≡ true
cancels_from t m s u h = and_both _ _ (used_true m s u) (has_true m (reverse_of t (row_in m s)) h)

-- a slot that stays is used and does not cancel, and the other way round
pub stays_used : (t : Table) (m : Memory) (s : ℕ) → stays t m s ≡ true → Used m s
stays_used t m s e = true_used m s (and_left (is_used m s) (not (reverse_held t m s)) e)

pub stays_none : (t : Table) (m : Memory) (s : ℕ) → stays t m s ≡ true → Has m (reverse_of t (row_in m s)) → ⊥
stays_none t m s e h = clash (has_true m (reverse_of t (row_in m s)) h) (not-true (reverse_held t m s) (and_right (is_used m s) (not (reverse_held t m s)) e))

pub stays_from : (t : Table) (m : Memory) (s : ℕ) → Used m s → (Has m (reverse_of t (row_in m s)) → ⊥) → stays t m s ≡ true
stays_from t m s u n = and_both _ _ (used_true m s u) (ap not (has_false m (reverse_of t (row_in m s)) n))

pub stays_not : (t : Table) (m : Memory) (s : ℕ) → stays t m s ≡ true → cancels t m s ≡ false
stays_not t m s e = ⊎_elim (λ c. absurd (stays_none t m s e (cancels_has t m s c))) (λ c. c) (either (cancels t m s))

pub stays_rest : (t : Table) (m : Memory) (s : ℕ) → Used m s → cancels t m s ≡ false → stays t m s ≡ true
stays_rest t m s u e = stays_from t m s u (λ h. clash (cancels_from t m s u h) e)

module _ {t : Table} {m : Memory} (R : Reverses (λ a. a < row_count t) (reverse_of t)) (L : Linked t m) where
  -- the row of the slot that holds the reverse
  pub mate_row : (s : ℕ) → cancels t m s ≡ true → row_in m (reverse_slot t m s) ≡ reverse_of t (row_in m s)
  mate_row s c = row_slot L (reverse_of t (row_in m s)) (cancels_has t m s c)

  row_back : (s : ℕ) → cancels t m s ≡ true → reverse_of t (row_in m (reverse_slot t m s)) ≡ row_in m s
  row_back s c = ap (reverse_of t) (mate_row s c) ∙ R.rev_rev (row_in m s) (has_in L (row_in m s) (row_has L s (cancels_used t m s c)))

  pub mate_cancels : (s : ℕ) → cancels t m s ≡ true → cancels t m (reverse_slot t m s) ≡ true
  mate_cancels s c = cancels_from t m (reverse_slot t m s) (slot_used L (reverse_of t (row_in m s)) (cancels_has t m s c))
      (subst (Has m) (sym (row_back s c)) (row_has L s (cancels_used t m s c)))

  pub mate_mate : (s : ℕ) → cancels t m s ≡ true → reverse_slot t m (reverse_slot t m s) ≡ s
  mate_mate s c = ap (slot_of m) (row_back s c) ∙ slot_row L s (cancels_used t m s c)

  pub linked_paired : Paired (slots m) (Used m) (cancels t m) (reverse_slot t m) (at m.next) (at m.prev)
  linked_paired = record {
    small = λ s u. at_in m.slot_row s u;
    goes_in = cancels_used t m;
    mate_goes = mate_cancels;
    mate_mate = mate_mate;
    forth_in = L.next_used;
    back_in = L.prev_used;
    back_forth = L.prev_next;
    forth_back = L.next_prev;
  }
