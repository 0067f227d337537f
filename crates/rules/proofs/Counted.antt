-- A row's slot is told by counting. Each used slot's row points back to it; so the rows of different slots differ, and where as many rows
-- have a slot as slots are used there is no row with a slot beside these.
--     rows_counted     as many rows have a slot as slots are used, just where every row's slot number is none or a used slot that holds it
-- Assumes nothing.
use Prim.Native.Nat.{ℕ, ◌+◌, ◌<◌, ◌≤◌}
use mathlib.Core.Path.{◌≡◌, refl, sym, ◌∙◌, ap}
use mathlib.Core.Bool.{Bool, true, false, ◌&&◌, ◌||◌, not}
use mathlib.Core.List.Memᴰ
use mathlib.Core.List.{List, ◌∷◌, Memᴰ}
use mathlib.Core.Logic.{⊎_elim}
use native.Mathlib.Omega.{arith}
use lib.Dec.{eqb, leb}
use lib.ListN.{length}
use borrow.Author.Tests.{eq-eqb, ne_eqb, eqb-true, le-leb, not-true}
use Rattle.scope.specs.Lists.{at, below, passes}
use Rattle.scope.specs.Table.{Table, row_count}
use Rattle.scope.specs.Memory.{Memory, slots, is_used, row_in, has_slot, slot_of}
use Rattle.scope.specs.Rules.{row_kept, points_back, cell_kept, links_kept, reverse_free, used_kept, slot_kept}
use Rattle.scope.proofs.Tests.{either, clash, same, and_left, and_right, and_both}
use Rattle.scope.proofs.Scan.{passes_at, passes_all}
use Rattle.scope.proofs.Members.{below_mem, mem_below, below_fresh}
use Rattle.scope.proofs.Pigeonhole.{fresh_within, one_to_one}
use Rattle.scope.proofs.Linked.{at_in, Used, Has, used_true, true_used, has_true, true_has}

-- a used slot's row points back to it
pub back_from : (t : Table) (m : Memory) → passes (slot_kept t m) (slots m) ≡ true → (s : ℕ) → Used m s → at m.row_slot (row_in m s) ≡ s + 1
unfolding slot_kept
back_from t m e s u =
    let kept : used_kept t m s ≡ true = rw (used_true m s u) at (passes_at (slot_kept t m) (slots m) e s (at_in m.slot_row s u)) in
    let linked = and_left (points_back t m s && cell_kept t m s && links_kept m s) (reverse_free t m s) kept in
    let owned = and_left (points_back t m s && cell_kept t m s) (links_kept m s) linked in
    let back = and_left (points_back t m s) (cell_kept t m s) owned in
    eqb-true _ _ (and_right (leb (at m.slot_row s) (row_count t)) _ back)

or_yes : (a b : Bool) → b ≡ true → (a || b) ≡ true
or_yes true b e = refl
or_yes false b e = e

-- a row's slot number is none, or a used slot that holds the row
module _ (m : Memory) (r : ℕ) where
  kept_none : at m.row_slot r ≡ 0 → row_kept m r ≡ true
  unfolding row_kept
  kept_none e = rw (eq-eqb (at m.row_slot r) 0 e)

  kept_held : (s : ℕ) → s < slots m → at m.row_slot r ≡ s + 1 → at m.slot_row s ≡ r + 1 → row_kept m r ≡ true
  unfolding row_kept
  kept_held s h e f =
      let z : slot_of m r ≡ s = omega arith in
      or_yes (not (has_slot m r)) _ (and_both _ _ (le-leb (at m.row_slot r) (slots m) (omega arith)) (eq-eqb (at m.slot_row (slot_of m r)) (r + 1) (ap (at m.slot_row) z ∙ f)))

  held_by : row_kept m r ≡ true → Has m r → at m.slot_row (slot_of m r) ≡ r + 1
  unfolding row_kept
  held_by e h = eqb-true _ _ (and_right (leb (at m.row_slot r) (slots m)) _ (rw (has_true m r h) at e))

module _ (m : Memory) (back : (s : ℕ) → Used m s → at m.row_slot (row_in m s) ≡ s + 1) where
  abbrev rows : ℕ
  rows = length m.row_slot

  abbrev used : List ℕ
  used = below (is_used m) (slots m)

  abbrev having : List ℕ
  having = below (has_slot m) rows

  is_used_lem : (s : ℕ) → Memᴰ s used → Used m s
  is_used_lem s i = true_used m s (mem_below (is_used m) (slots m) s i).1

  row_has : (s : ℕ) → Used m s → Has m (row_in m s)
  row_has s u z = let e = back s u in omega arith

  one_slot : (s q : ℕ) → Used m s → Used m q → row_in m s ≡ row_in m q → s ≡ q
  one_slot s q u v e =
      let a = back s u in
      let b = back q v in
      let d = ap (at m.row_slot) e in
      omega arith

  -- the rows that a test lists beside having a slot are as many as the used slots at least, where it lists the row of each
  listed : (ok : ℕ → Bool) → ((s : ℕ) → Used m s → ok (row_in m s) ≡ true) → length used ≤ length (below ok rows)
  listed ok f = one_to_one (row_in m) used (below ok rows) (below_fresh (is_used m) (slots m))
      (λ s i. let u = is_used_lem s i in below_mem ok rows (row_in m s) (at_in m.row_slot (row_in m s) (row_has s u)) (f s u))
      (λ s q i j e. one_slot s q (is_used_lem s i) (is_used_lem q j) e)

  -- a row that breaks the rule has a slot, and is no used slot's row
  module _ (r : ℕ) (within : r < rows) (bad : row_kept m r ≡ false) where
    abbrev other : ℕ → Bool
    other q = has_slot m q && not (eqb q r)

    has : Has m r
    has z = clash (kept_none m r z) bad

    missed : (s : ℕ) → Used m s → row_in m s ≡ r → ⊥
    missed s u e =
        let b = sym (ap (at m.row_slot) e) ∙ back s u in
        let f : at m.slot_row s ≡ r + 1 = omega arith in
        clash (kept_held m r s (at_in m.slot_row s u) b f) bad

    apart : Memᴰ r (below other rows) → ⊥
    apart i = clash (eq-eqb r r refl) (not-true _ (and_right (has_slot m r) _ (mem_below other rows r i).1))

    also : (q : ℕ) → Memᴰ q (r ∷ below other rows) → Memᴰ q having
    also q i = ⊎_elim
        (λ (e : q ≡ r). Memᴰ.cast e (below_mem (has_slot m) rows r within (has_true m r has)))
        (λ j. let l = mem_below other rows q j in below_mem (has_slot m) rows q l.0 (and_left (has_slot m q) _ l.1))
        (Memᴰ.cases_cons i)

    more : length used < length having
    more =
        let a = listed other (λ s u. and_both _ _ (has_true m (row_in m s) (row_has s u)) (ap not (ne_eqb (row_in m s) r (missed s u)))) in
        let b = fresh_within (r ∷ below other rows) having (apart, below_fresh other rows) also in
        omega arith

  -- where every row keeps the rule, each row with a slot has a used one of its own
  as_many : passes (row_kept m) rows ≡ true → length having ≤ length used
  as_many e = one_to_one (slot_of m) having used (below_fresh (has_slot m) rows)
      (λ r i. let u : Used m (slot_of m r) = λ z. let h = held r i in omega arith in below_mem (is_used m) (slots m) (slot_of m r) (at_in m.slot_row (slot_of m r) u) (used_true m (slot_of m r) u))
      (λ r q i j z. let a = held r i in let b = held q j in let d = ap (at m.slot_row) z in omega arith)
    where
      held : (r : ℕ) → Memᴰ r having → at m.slot_row (slot_of m r) ≡ r + 1
      held r i = let l = mem_below (has_slot m) rows r i in held_by m r (passes_at (row_kept m) rows e r l.0) (true_has m r l.1)

  pub rows_counted : eqb (length having) (length used) ≡ passes (row_kept m) rows
  rows_counted = same _ _
      (λ e. passes_all (row_kept m) rows (λ r h. ⊎_elim
      (λ (t : row_kept m r ≡ true). t)
      (λ (t : row_kept m r ≡ false). absurd (let l = more r h t in let q = eqb-true (length having) (length used) e in omega arith))
      (either (row_kept m r))))
      (λ e. let a = as_many e in let b = listed (has_slot m) (λ s u. has_true m (row_in m s) (row_has s u)) in eq-eqb (length having) (length used) (omega arith))
