-- The state's rules for 9, each as a fact with a name: what a state that passes has.
--     RowHeld, SlotUsed, SlotFree     a row with a slot, a used slot, a free slot
--     RulesGood                       all rules
--     rules_good                      a state that passes has them; `rules_kept_lem` of RulesKept is the other way round
-- Assumes nothing.
use Prim.Native.Nat.{ℕ, ◌+◌, ◌-◌, ◌<◌, ◌≤◌}
use mathlib.Core.Path.{◌≡◌, refl, ap}
use mathlib.Core.Bool.{Bool, true, false, ◌&&◌, ◌||◌, not}
use native.Mathlib.Omega.{arith}
use lib.Dec.{eqb, ltb}
use lib.ListN.{length}
use borrow.Author.Tests.{eq-eqb, ne_eqb, eqb-true, leb-true, ltb-true}
use Rattle.std.specs.Prelude.{Ok}
use Rattle.scope.specs.Lists.{at, total}
use Rattle.scope.specs.Table.{Table, row_count, reverse_of, target_of}
use Rattle.scope.specs.CellLists.{list_verdict}
use Rattle.scope.specs.Memory.{Memory, kept_mode, held, held_cells, places, slots, row_in, has_slot, slot_of}
use Rattle.scope.specs.Rules.{row_kept, owned_by, links_kept, free_kept, used_kept, slot_kept, cleared_at, is_root, parent_kept, root_count, ranks_kept, rules_kept}
use Rattle.scope.proofs.Tests.{clash, and_left, and_right}
use Rattle.scope.proofs.Scan.{passes_at}
use Rattle.scope.proofs.Verdicts.{accepted}

-- A row's slot number is none or a used slot that holds this row.
pub record RowHeld (m : Memory) (r : ℕ) : Type 0 where
  pub slot-in : slot_of m r < slots m
  pub holds : at m.slot_row (slot_of m r) ≡ r + 1

-- A used slot has its row in range, that row points back to it, its cell number is held and the row's owner is that cell or lies under
-- it; previous and next are used and inverse to each other; no row and its reverse are both held.
pub record SlotUsed (t : Table) (m : Memory) (s : ℕ) : Type 0 where
  pub row_within : row_in m s < row_count t
  pub row_is : at m.slot_row s ≡ row_in m s + 1
  pub back : at m.row_slot (row_in m s) ≡ s + 1
  pub cell_held : at m.slot_cell s < held m
  pub owned : owned_by (at t.edges (row_in m s)) (at m.cells (at m.slot_cell s)) ≡ true
  pub prev_in : at m.prev s < slots m
  pub prev_used : at m.slot_row (at m.prev s) ≡ 0 → ⊥
  pub next_in : at m.next s < slots m
  pub next_used : at m.slot_row (at m.next s) ≡ 0 → ⊥
  pub next_prev : at m.next (at m.prev s) ≡ s
  pub prev_next : at m.prev (at m.next s) ≡ s
  pub reverse_free : at m.row_slot (reverse_of t (row_in m s)) ≡ 0

-- Free slots are cleared.
pub record SlotFree (m : Memory) (s : ℕ) : Type 0 where
  pub cell_clear : at m.slot_cell s ≡ 0
  pub prev_clear : at m.prev s ≡ 0
  pub next_clear : at m.next s ≡ 0

pub record RulesGood (t : Table) (m : Memory) : Type 0 where
  pub mode_fits : kept_mode m ≤ 1
  pub count_fits : held m ≤ places m
  pub cells_pass : list_verdict (kept_mode m) (target_of t) (held m) (held_cells m) ≡ Ok tt
  pub row_held : (r : ℕ) → r < length m.row_slot → (at m.row_slot r ≡ 0 → ⊥) → RowHeld m r
  pub slot_used : (s : ℕ) → s < slots m → (at m.slot_row s ≡ 0 → ⊥) → SlotUsed t m s
  pub slot_free : (s : ℕ) → s < slots m → at m.slot_row s ≡ 0 → SlotFree m s
  pub row_marks : (r : ℕ) → r < length m.row_mark → at m.row_mark r ≡ 0
  pub cell_marks : (i : ℕ) → i < length m.cell_mark → at m.cell_mark i ≡ 0
  pub parent_held : (i : ℕ) → i < held m → at m.parent i < held m
  pub rank_rises : (i : ℕ) → i < held m → (at m.parent i ≡ i → ⊥) → at m.rank i < at m.rank (at m.parent i)
  pub ranks_fit : total (at m.rank) (held m) + root_count m.parent (held m) ≤ held m

-- ---- tests

both : (a b : Bool) → (a && b) ≡ true → (a ≡ true) × (b ≡ true)
both a b e = (and_left a b e, and_right a b e)

pub not_zero : (n : ℕ) → not (eqb n 0) ≡ true → n ≡ 0 → ⊥
not_zero n e z = clash e (ap not (eq-eqb n 0 z))

pub zero_not : (n : ℕ) → (n ≡ 0 → ⊥) → not (eqb n 0) ≡ true
zero_not n h = ap not (ne_eqb n 0 h)

or_else : (a b : Bool) → (a || b) ≡ true → a ≡ false → b ≡ true
or_else true b e h = absurd (clash refl h)
or_else false b e h = e

-- a number that is stored plus one
one_less : (k n : ℕ) → (k ≡ 0 → ⊥) → k ≤ n → (k - 1 < n) × (k ≡ k - 1 + 1)
one_less k n h l = (omega arith, omega arith)

-- ---- from the tests to the facts

row_facts : (m : Memory) (r : ℕ) → row_kept m r ≡ true → (at m.row_slot r ≡ 0 → ⊥) → RowHeld m r
unfolding row_kept
row_facts m r e h =
    let b = both _ _ (or_else (not (has_slot m r)) _ e (ap not (zero_not (at m.row_slot r) h))) in
    record { slot-in = (one_less (at m.row_slot r) (slots m) h (leb-true _ _ b.0)).0; holds = eqb-true _ _ b.1 }

used_facts : (t : Table) (m : Memory) (s : ℕ) → slot_kept t m s ≡ true → (at m.slot_row s ≡ 0 → ⊥) → SlotUsed t m s
unfolding slot_kept links_kept
used_facts t m s e h =
    let u : used_kept t m s ≡ true = rw (zero_not (at m.slot_row s) h) at e in
    let a₁ = both _ _ u in let a₂ = both _ _ a₁.0 in let a₃ = both _ _ a₂.0 in
    let p = both _ _ a₃.0 in let o = both _ _ a₃.1 in
    let l₁ = both _ _ a₂.1 in let l₂ = both _ _ l₁.0 in let l₃ = both _ _ l₂.0 in
    let before = both _ _ l₃.0 in let after = both _ _ l₃.1 in
    let r = one_less (at m.slot_row s) (row_count t) h (leb-true _ _ p.0) in
    record {
      row_within = r.0;
      row_is = r.1;
      back = eqb-true _ _ p.1;
      cell_held = ltb-true _ _ o.0;
      owned = o.1;
      prev_in = ltb-true _ _ before.0;
      prev_used = not_zero _ before.1;
      next_in = ltb-true _ _ after.0;
      next_used = not_zero _ after.1;
      next_prev = eqb-true _ _ l₂.1;
      prev_next = eqb-true _ _ l₁.1;
      reverse_free = eqb-true _ _ (twice _ a₁.1);
    }
  where
    twice : (b : Bool) → not (not b) ≡ true → b ≡ true
    twice true e = refl
    twice false e = e

free_facts : (t : Table) (m : Memory) (s : ℕ) → slot_kept t m s ≡ true → at m.slot_row s ≡ 0 → SlotFree m s
unfolding slot_kept
free_facts t m s e h =
    let f : free_kept m s ≡ true = rw (ap not (eq-eqb (at m.slot_row s) 0 h)) at e in
    let a₁ = both _ _ f in let a₂ = both _ _ a₁.0 in
    record { cell_clear = eqb-true _ _ a₂.0; prev_clear = eqb-true _ _ a₂.1; next_clear = eqb-true _ _ a₁.1 }

pub rules_good : (t : Table) (m : Memory) → rules_kept t m ≡ true → RulesGood t m
unfolding rules_kept parent_kept ranks_kept
rules_good t m e =
    let a₁ = both _ _ e in let a₂ = both _ _ a₁.0 in let a₃ = both _ _ a₂.0 in let a₄ = both _ _ a₃.0 in
    let a₅ = both _ _ a₄.0 in let a₆ = both _ _ a₅.0 in
    let head = both _ _ a₆.0 in let marks = both _ _ a₃.1 in
    let slot = passes_at (slot_kept t m) (slots m) a₄.1 in
    let parent : (i : ℕ) → i < held m → _ = λ i h. both (ltb (at m.parent i) (held m)) _ (passes_at (parent_kept m) (held m) a₂.1 i h) in
    record {
      mode_fits = leb-true _ _ head.0;
      count_fits = leb-true _ _ head.1;
      cells_pass = accepted _ a₆.1;
      row_held = λ r h. row_facts m r (passes_at (row_kept m) (length m.row_slot) a₅.1 r h);
      slot_used = λ s h. used_facts t m s (slot s h);
      slot_free = λ s h. free_facts t m s (slot s h);
      row_marks = λ r h. eqb-true _ _ (passes_at (cleared_at m.row_mark) (length m.row_mark) marks.0 r h);
      cell_marks = λ i h. eqb-true _ _ (passes_at (cleared_at m.cell_mark) (length m.cell_mark) marks.1 i h);
      parent_held = λ i h. ltb-true _ _ (parent i h).0;
      rank_rises = λ i h n. ltb-true _ _ (or_else (is_root m.parent i) _ (parent i h).1 (ne_eqb _ _ n));
      ranks_fit = leb-true _ _ a₁.1;
    }
