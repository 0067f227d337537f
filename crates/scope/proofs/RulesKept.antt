-- A state that has the facts of `RulesGood` passes the rules for 9.
-- Assumes nothing.
use Prim.Native.Nat.{ℕ, ◌<◌, ◌≤◌}
use mathlib.Core.Path.{◌≡◌, refl, sym, ap}
use mathlib.Core.Bool.{Bool, true, false, ◌||◌, not}
use mathlib.Core.Logic.{⊎_elim}
use native.Mathlib.Omega.{arith}
use lib.Dec.{eqb}
use lib.ListN.{length}
use borrow.Author.Tests.{eq-eqb, lt-ltb, le-leb, eqb-true, eqb-false}
use Rattle.scope.specs.Lists.{at}
use Rattle.scope.specs.Answers.{is_accepted}
use Rattle.scope.specs.Table.{Table, row_count}
use Rattle.scope.specs.Memory.{Memory, held, slots, has_slot}
use Rattle.scope.specs.Rules.{row_kept, link_used, links_kept, slot_kept, cleared_at, is_root, parent_kept, ranks_kept, rules_kept}
use Rattle.scope.proofs.Tests.{either, and_both}
use Rattle.scope.proofs.Scan.{passes_all}
use Rattle.scope.proofs.Rules.{RowHeld, SlotUsed, SlotFree, RulesGood, not_zero, zero_not}

or_second : (a b : Bool) → (a ≡ false → b ≡ true) → (a || b) ≡ true
or_second true b f = refl
or_second false b f = f refl

row_test : (m : Memory) (r : ℕ) → ((at m.row_slot r ≡ 0 → ⊥) → RowHeld m r) → row_kept m r ≡ true
unfolding row_kept
row_test m r f = or_second (not (has_slot m r)) _ (λ e.
    let n : (at m.row_slot r ≡ 0 → ⊥) = not_zero (at m.row_slot r) (twice_false _ e) in
    let w = f n in
    let l : at m.row_slot r ≤ slots m = omega (arith, w.slot-in) in
    and_both _ _ (le-leb _ _ l) (eq-eqb _ _ w.holds))
  where
    twice_false : (b : Bool) → not b ≡ false → b ≡ true
    twice_false true e = refl
    twice_false false e = sym e

used_test : (t : Table) (m : Memory) (s : ℕ) → (at m.slot_row s ≡ 0 → ⊥) → SlotUsed t m s → slot_kept t m s ≡ true
unfolding slot_kept links_kept
used_test t m s h u =
    let r : at m.slot_row s ≤ row_count t = omega (arith, u.row_within) in
    let link : (k : ℕ) → k < slots m → (at m.slot_row k ≡ 0 → ⊥) → link_used m k ≡ true = λ k l n. and_both _ _ (lt-ltb _ _ l) (zero_not _ n) in
    rw (zero_not (at m.slot_row s) h)
    (and_both _ _
    (and_both _ _
    (and_both _ _ (and_both _ _ (le-leb _ _ r) (eq-eqb _ _ u.back)) (and_both _ _ (lt-ltb _ _ u.cell_held) u.owned))
    (and_both _ _
    (and_both _ _ (and_both _ _ (link _ u.prev_in u.prev_used) (link _ u.next_in u.next_used)) (eq-eqb _ _ u.next_prev))
    (eq-eqb _ _ u.prev_next)))
    (ap (λ (b : Bool). not (not b)) (eq-eqb _ _ u.reverse_free)))

free_test : (t : Table) (m : Memory) (s : ℕ) → at m.slot_row s ≡ 0 → SlotFree m s → slot_kept t m s ≡ true
unfolding slot_kept
free_test t m s h f = rw (ap not (eq-eqb (at m.slot_row s) 0 h))
    (and_both _ _ (and_both _ _ (eq-eqb _ _ f.cell_clear) (eq-eqb _ _ f.prev_clear)) (eq-eqb _ _ f.next_clear))

pub rules_kept_lem : (t : Table) (m : Memory) → RulesGood t m → rules_kept t m ≡ true
unfolding rules_kept parent_kept ranks_kept
rules_kept_lem t m g =
    let slot : (s : ℕ) → s < slots m → slot_kept t m s ≡ true = λ s h. ⊎_elim
    (λ e. let z = eqb-true (at m.slot_row s) 0 e in free_test t m s z (g.slot_free s h z))
    (λ e. let z = eqb-false (at m.slot_row s) 0 e in used_test t m s z (g.slot_used s h z))
    (either (eqb (at m.slot_row s) 0)) in
    let parent : (i : ℕ) → i < held m → parent_kept m i ≡ true = λ i h.
    and_both _ _ (lt-ltb _ _ (g.parent_held i h)) (or_second (is_root m.parent i) _ (λ e. lt-ltb _ _ (g.rank_rises i h (eqb-false _ _ e)))) in
    and_both _ _
    (and_both _ _
    (and_both _ _
    (and_both _ _
    (and_both _ _
    (and_both _ _ (and_both _ _ (le-leb _ _ g.mode_fits) (le-leb _ _ g.count_fits)) (ap is_accepted g.cells_pass))
    (passes_all (row_kept m) (length m.row_slot) (λ r h. row_test m r (g.row_held r h))))
    (passes_all (slot_kept t m) (slots m) slot))
    (and_both _ _
    (passes_all (cleared_at m.row_mark) (length m.row_mark) (λ r h. eq-eqb _ _ (g.row_marks r h)))
    (passes_all (cleared_at m.cell_mark) (length m.cell_mark) (λ i h. eq-eqb _ _ (g.cell_marks i h)))))
    (passes_all (parent_kept m) (held m) parent))
    (le-leb _ _ g.ranks_fit)
