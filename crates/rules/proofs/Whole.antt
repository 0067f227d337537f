-- The rules one by one, each over the slices that it reads and the rows' one by counting and the links by those ahead, are the rules over the whole memory.
-- Assumes nothing.
use Prim.Native.Nat.{ℕ, ◌≤◌}
use mathlib.Core.Path.{◌≡◌, refl, sym, ◌∙◌, ap}
use mathlib.Core.Bool.{Bool, true, false, ◌&&◌, not}
use mathlib.Core.List.{[]}
use lib.Dec.{eqb, leb}
use lib.ListN.{length, take}
use borrow.Author.Tests.{leb-true, not-true, not-false}
use Rattle.scope.specs.Lists.{at, passes}
use Rattle.scope.specs.Answers.{is_accepted}
use Rattle.scope.specs.Cells.{resolution_of}
use Rattle.scope.specs.Table.{Table, table}
use Rattle.scope.specs.CellLists.{list_verdict}
use Rattle.scope.specs.Memory.{Memory}
use Rattle.scope.specs.Rules.{row_kept, links_kept, slot_kept, cleared_at, parent_kept, ranks_kept, rules_kept}
use Rattle.scope.proofs.Tests.{and_right, and_false}
use Rattle.slot_rules.specs.Slices.{pool, slot_ahead}
use Rattle.rules.specs.Slices.{rows, forest, set_count}
use Rattle.rules.proofs.Counted.{back_from, rows_counted}
use Rattle.rules.proofs.Ahead.{ahead_all}

pub held_fits : (mode held n : ℕ) → not (leb mode 1 && leb held n) ≡ false → held ≤ n
held_fits mode held n e = leb-true held n (and_right (leb mode 1) _ (not-false (leb mode 1 && leb held n) e))

-- a test may stand for another where a third one holds
stands_for : (a x y d : Bool) → (d ≡ true → x ≡ y) → (a && x && d) ≡ (a && y && d)
stands_for a x y true e = ap (λ (z : Bool). a && z && true) (e refl)
stands_for a x y false e = and_false (a && x) ∙ sym (and_false (a && y))

module _ (t : Table) (m : Memory) (mode held : ℕ)
    (mode-is : mode ≡ at m.head 0) (held_is : held ≡ at m.head 1) where
  abbrev whole : Bool
  whole = rules_kept t m

  abbrev fits : Bool
  fits = leb mode 1 && leb held (length m.cells)

  pub head_fails : not fits ≡ true → false ≡ whole
  unfolding rules_kept
  head_fails e = rw (← mode-is, ← held_is, not-true fits e)

  one_by_one : not fits ≡ false → {target : ℕ} {a b d f g h k : Bool} → target ≡ resolution_of (at t.edges 0)
      → a ≡ is_accepted (list_verdict mode target held (take held m.cells))
      → b ≡ passes (row_kept (rows m.slot_row m.row_slot)) (length m.row_slot)
      → d ≡ passes (slot_kept (table t.edges t.reverse []) (pool held m.cells m.slot_row m.slot_cell m.prev m.next m.row_slot)) (length m.slot_row)
      → f ≡ passes (cleared_at m.row_mark) (length m.row_mark) → g ≡ passes (cleared_at m.cell_mark) (length m.cell_mark)
      → h ≡ passes (parent_kept (forest held m.parent m.rank)) held → k ≡ ranks_kept m.parent m.rank held
      → (a && b && d && (f && g) && h && k) ≡ whole
  unfolding rules_kept row_kept slot_kept links_kept parent_kept
  one_by_one e z p q r u v w x =
      let head_kept : (leb (at m.head 0) 1 && leb (at m.head 1) (length m.cells)) ≡ true = rw (mode-is, held_is) at (not-false fits e) in
      rw (p, q, r, u, v, w, x, z, held_is, mode-is, head_kept)

  pub counted : not fits ≡ false → {target p q : ℕ} {a d f g h k : Bool} → target ≡ resolution_of (at t.edges 0)
      → a ≡ is_accepted (list_verdict mode target held (take held m.cells))
      → p ≡ set_count m.row_slot → q ≡ set_count m.slot_row
      → d ≡ passes (slot_ahead (table t.edges t.reverse []) (pool held m.cells m.slot_row m.slot_cell m.prev m.next m.row_slot)) (length m.slot_row)
      → f ≡ passes (cleared_at m.row_mark) (length m.row_mark) → g ≡ passes (cleared_at m.cell_mark) (length m.cell_mark)
      → h ≡ passes (parent_kept (forest held m.parent m.rank)) held → k ≡ ranks_kept m.parent m.rank held
      → (a && eqb p q && d && (f && g) && h && k) ≡ whole
  counted e {target} {p} {q} {a} {d} {f} {g} {h} {k} et ea ep eq en ef eg eh ek =
      let ed = en ∙ ahead_all (table t.edges t.reverse []) (pool held m.cells m.slot_row m.slot_cell m.prev m.next m.row_slot) in
      let kept : Bool = passes (row_kept (rows m.slot_row m.row_slot)) (length m.row_slot) in
      let count : (d ≡ true → eqb p q ≡ kept) = λ yes. rw (ep, eq) (rows_counted (rows m.slot_row m.row_slot) (back_from (table t.edges t.reverse []) (pool held m.cells m.slot_row m.slot_cell m.prev m.next m.row_slot) (sym ed ∙ yes))) in
      ap (λ (z : Bool). z && (f && g) && h && k) (stands_for a (eqb p q) kept d count) ∙ one_by_one e et ea refl ed ef eg eh ek
