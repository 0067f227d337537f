-- CANCELLING, all pairs at once: what the lists of `cancelled` hold at each place, for slots and rows that point at each other.
--     Cancelled t m m'         m' holds of m what stays, with the links that pass over what cancels; all else is cleared
--     cancelled_lists          `cancelled` leaves such a state
--     cancelled_linked         whose slots and rows point at each other again, its links inverse
--     cancelled_has, -used     a row keeps its slot exactly when its reverse has none
--     cancelled_successor      its next rows are the successors over the rows held before
-- Assumes nothing.
use mathlib.Core.Path.{◌≡◌, refl, sym, ◌∙◌, ap, subst}
use mathlib.Core.Logic.{⊎_elim}
use mathlib.Core.Bool.{true, false, not}
use mathlib.Core.List.{List}
use Prim.Native.Nat.{ℕ, ◌-◌, ◌≤◌, ◌<◌}
use native.Mathlib.Omega.{arith}
use borrow.Author.Tests.{not-true}
use lib.ListN.{length, get_or-eq_default}
use Rattle.scope.specs.Lists.{at, tabulate}
use Rattle.scope.specs.Table.{Table, row_count, reverse_of}
use Rattle.scope.specs.Standing.{Lands, Stands, Successor}
use Rattle.scope.specs.Memory.{Memory, slots, row_in, slot_of}
use Rattle.scope.specs.Order.{next_row}
use Rattle.scope.specs.Pool.{reverse_slot, cancels, stays, relinked, if_stays, row_if_stays, cancelled}
use Rattle.scope.proofs.Tests.{either, clash, le_or_lt}
pub use Rattle.scope.proofs.Below.{tabulate_length}
use Rattle.scope.proofs.Below.{tabulate_at}
use Rattle.scope.proofs.Lands.{lands_to, lands_map}
use Rattle.scope.proofs.Successor.{Reverses}
use Rattle.scope.proofs.Returns.{Over, turned, returns, returned_in, returned_stays, returned_back}
use Rattle.scope.proofs.Linked.{at_in, Used, Has, has_true, has_false, Linked, has_in, slot_used, row_has, row_slot, cancels_used, cancels_has, cancels_from, stays_used, stays_none, stays_from, stays_not, stays_rest, mate_cancels, linked_paired}

-- ---- a list made place by place

-- where f is 0 past the end, f is there at every place
pub tabulate_all : (f : ℕ → ℕ) (n i : ℕ) → (n ≤ i → f i ≡ 0) → at (tabulate f n) i ≡ f i
tabulate_all f n i z = ⊎_elim
    (λ (h : n ≤ i). let l = tabulate_length f 0 n in get_or-eq_default (tabulate f n) 0 (omega arith) ∙ sym (z h))
    (λ (h : i < n). tabulate_at f n i h)
    (le_or_lt n i)

-- the row in the next slot of a row's slot
abbrev pub row_after : Memory → ℕ → ℕ
row_after m = next_row m.row_slot m.slot_row m.next

-- ---- what is left

pub record Cancelled (t : Table) (m m' : Memory) : Type 0 where
  pub pool : slots m' ≡ slots m
  pub rows : length m'.row_slot ≡ row_count t
  pub cell_count : length m'.slot_cell ≡ slots m
  pub prev_count : length m'.prev ≡ slots m
  pub next_count : length m'.next ≡ slots m
  pub slot_row : (s : ℕ) → at m'.slot_row s ≡ if_stays t m (at m.slot_row) s
  pub slot_cell : (s : ℕ) → at m'.slot_cell s ≡ if_stays t m (at m.slot_cell) s
  pub slot_prev : (s : ℕ) → at m'.prev s ≡ if_stays t m (relinked t m m.prev) s
  pub slot_next : (s : ℕ) → at m'.next s ≡ if_stays t m (relinked t m m.next) s
  pub row_slot : (r : ℕ) → r < row_count t → at m'.row_slot r ≡ row_if_stays t m r

-- no slot past the pool stays
past_none : (t : Table) (m : Memory) (s : ℕ) → slots m ≤ s → stays t m s ≡ false
past_none t m s h = ⊎_elim (λ e. absurd (let k = at_in m.slot_row s (stays_used t m s e) in omega arith)) (λ e. e) (either (stays t m s))

pub cancelled_lists : (t : Table) (m : Memory) (ss : List ℕ) → Cancelled t m (cancelled t m ss)
unfolding cancelled
cancelled_lists t m ss = record {
  pool = tabulate_length (if_stays t m (at m.slot_row)) 0 (slots m);
  rows = tabulate_length (row_if_stays t m) 0 (row_count t);
  cell_count = tabulate_length (if_stays t m (at m.slot_cell)) 0 (slots m);
  prev_count = tabulate_length (if_stays t m (relinked t m m.prev)) 0 (slots m);
  next_count = tabulate_length (if_stays t m (relinked t m m.next)) 0 (slots m);
  slot_row = each (at m.slot_row);
  slot_cell = each (at m.slot_cell);
  slot_prev = each (relinked t m m.prev);
  slot_next = each (relinked t m m.next);
  row_slot = λ r h. tabulate_at (row_if_stays t m) (row_count t) r h;
}
  where
    each : (f : ℕ → ℕ) (s : ℕ) → at (tabulate (if_stays t m f) (slots m)) s ≡ if_stays t m f s
    each f s = tabulate_all (if_stays t m f) (slots m) s (λ h. rw (past_none t m s h))

module _ {t : Table} {m m' : Memory} (R : Reverses (λ a. a < row_count t) (reverse_of t)) (L : Linked t m) (C : Cancelled t m m') where
  -- ---- slots

  pub row_left : (s : ℕ) → stays t m s ≡ true → at m'.slot_row s ≡ at m.slot_row s
  row_left s e = C.slot_row s ∙ rw e

  pub cell_left : (s : ℕ) → stays t m s ≡ true → at m'.slot_cell s ≡ at m.slot_cell s
  cell_left s e = C.slot_cell s ∙ rw e

  pub prev_left : (s : ℕ) → stays t m s ≡ true → at m'.prev s ≡ relinked t m m.prev s
  prev_left s e = C.slot_prev s ∙ rw e

  pub next_left : (s : ℕ) → stays t m s ≡ true → at m'.next s ≡ relinked t m m.next s
  next_left s e = C.slot_next s ∙ rw e

  pub used_left : (s : ℕ) → stays t m s ≡ true → Used m' s
  used_left s e = rw (row_left s e) (stays_used t m s e)

  pub cancelled_used : (s : ℕ) → Used m' s → stays t m s ≡ true
  cancelled_used s u = ⊎_elim (λ e. e) (λ e. absurd (u (C.slot_row s ∙ rw e))) (either (stays t m s))

  -- ---- rows

  pub has_left : (r : ℕ) → Has m r → (Has m (reverse_of t r) → ⊥) → at m'.row_slot r ≡ at m.row_slot r
  has_left r h n = C.row_slot r (has_in L r h) ∙ rw (has_false m (reverse_of t r) n)

  pub cancelled_has : (r : ℕ) → Has m' r → Has m r × (Has m (reverse_of t r) → ⊥)
  cancelled_has r h =
      let l : r < row_count t = let k = at_in m'.row_slot r h in let c = C.rows in omega arith in
      let none : Has m (reverse_of t r) → ⊥ = λ k. h (C.row_slot r l ∙ rw (has_true m (reverse_of t r) k)) in
      (λ z. h (C.row_slot r l ∙ rw (has_false m (reverse_of t r) none) z), none)

  pub has_cancelled : (r : ℕ) → Has m r → (Has m (reverse_of t r) → ⊥) → Has m' r
  has_cancelled r h n = rw (has_left r h n) h

  -- the slot of a row that keeps it stays
  pub slot_stays : (r : ℕ) → Has m r → (Has m (reverse_of t r) → ⊥) → stays t m (slot_of m r) ≡ true
  slot_stays r h n = stays_from t m (slot_of m r) (slot_used L r h) (λ k. n (subst (λ (a : ℕ). Has m (reverse_of t a)) (row_slot L r h) k))

  -- ---- links

  pub next_stays : (s : ℕ) → stays t m s ≡ true → stays t m (relinked t m m.next s) ≡ true
  unfolding relinked
  next_stays s e =
      let P = linked_paired R L in
      let u = stays_used t m s e in
      stays_rest t m (relinked t m m.next s) (returned_in P s u (stays_not t m s e)) (returned_stays P s u (stays_not t m s e))

  pub prev_stays : (s : ℕ) → stays t m s ≡ true → stays t m (relinked t m m.prev s) ≡ true
  unfolding relinked
  prev_stays s e =
      let P = turned (linked_paired R L) in
      let u = stays_used t m s e in
      stays_rest t m (relinked t m m.prev s) (returned_in P s u (stays_not t m s e)) (returned_stays P s u (stays_not t m s e))

  prev_next_left : (s : ℕ) → stays t m s ≡ true → relinked t m m.prev (relinked t m m.next s) ≡ s
  unfolding relinked
  prev_next_left s e = returned_back (linked_paired R L) s (stays_used t m s e) (stays_not t m s e)

  next_prev_left : (s : ℕ) → stays t m s ≡ true → relinked t m m.next (relinked t m m.prev s) ≡ s
  unfolding relinked
  next_prev_left s e = returned_back (turned (linked_paired R L)) s (stays_used t m s e) (stays_not t m s e)

  pub cancelled_linked : Linked t m'
  cancelled_linked = record {
    row_count = C.rows;
    row_held = λ r h.
        let p = cancelled_has r h in
        let e = has_left r p.0 p.1 in
        ap (λ (k : ℕ). at m'.slot_row (k - 1)) e ∙ row_left (slot_of m r) (slot_stays r p.0 p.1) ∙ L.row_held r p.0;
    slot_held = λ s u.
        let e = cancelled_used s u in
        let v = stays_used t m s e in
        ap (λ (k : ℕ). at m'.row_slot (k - 1)) (row_left s e) ∙ has_left (row_in m s) (row_has L s v) (stays_none t m s e) ∙ L.slot_held s v;
    next_used = λ s u. let e = cancelled_used s u in subst (Used m') (sym (next_left s e)) (used_left _ (next_stays s e));
    prev_used = λ s u. let e = cancelled_used s u in subst (Used m') (sym (prev_left s e)) (used_left _ (prev_stays s e));
    prev_next = λ s u. let e = cancelled_used s u in ap (at m'.prev) (next_left s e) ∙ prev_left _ (next_stays s e) ∙ prev_next_left s e;
    next_prev = λ s u. let e = cancelled_used s u in ap (at m'.next) (prev_left s e) ∙ next_left _ (prev_stays s e) ∙ next_prev_left s e;
  }

  -- no row and its reverse are both held
  pub cancelled_none : (r : ℕ) → Has m' r → Has m' (reverse_of t r) → ⊥
  cancelled_none r h k = (cancelled_has r h).1 (cancelled_has (reverse_of t r) k).0

  -- ---- the links by rows

  slots_over : (s : ℕ) → stays t m s ≡ true → Over (cancels t m) (reverse_slot t m) (at m.next) (at m.next s) (relinked t m m.next s)
  unfolding relinked
  slots_over s e = returns (linked_paired R L) s (stays_used t m s e) (stays_not t m s e)

  rows_over : (s y : ℕ) → Used m s → Over (cancels t m) (reverse_slot t m) (at m.next) s y
      → Lands (Stands (Has m) (reverse_of t)) (λ w. row_after m (reverse_of t w)) (row_in m s) (row_in m y)
  rows_over s y u r = lands_map (row_in m) (Used m)
      (λ w v e. (row_has L w v, λ h. clash (cancels_from t m w v h) (not-true (cancels t m w) e)))
      (λ w v q. ap not (⊎_elim (λ c. absurd (q.1 (cancels_has t m w c))) (λ c. c) (either (cancels t m w))))
      (λ w v n. L.next_used (reverse_slot t m w) (cancels_used t m (reverse_slot t m w) (mate_cancels R L w (goes w n))))
      (λ w v n. refl) u r
    where
      goes : (w : ℕ) → (not (cancels t m w) ≡ true → ⊥) → cancels t m w ≡ true
      goes w n = ⊎_elim (λ c. c) (λ c. absurd (n (ap not c))) (either (cancels t m w))

  pub cancelled_successor : (r : ℕ) → Has m' r → Successor (Has m) (reverse_of t) (row_after m) r (row_after m' r)
  cancelled_successor r h =
      let p = cancelled_has r h in
      let s = slot_of m r in
      let e = slot_stays r p.0 p.1 in
      let u = slot_used L r p.0 in
      let y = relinked t m m.next s in
      let slot : slot_of m' r ≡ s = ap (λ (k : ℕ). k - 1) (has_left r p.0 p.1) in
      let after : row_after m' r ≡ row_in m y =
      ap (λ (k : ℕ). row_in m' (at m'.next k)) slot ∙ ap (row_in m') (next_left s e) ∙ ap (λ (k : ℕ). k - 1) (row_left y (next_stays s e)) in
      lands_to (sym after) (rows_over (at m.next s) y (L.next_used s u) (slots_over s e))
