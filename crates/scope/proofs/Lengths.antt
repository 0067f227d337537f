-- The lengths that 10 asks for, each as a fact with a name.
--     Lengths t m                     the slices of a table and a memory agree in length, the capacities are in their ranges
--     lengths_good, lengths_kept      `lengths_fit` tests exactly these
-- Assumes nothing.
use Prim.Native.Nat.{◌≤◌}
use mathlib.Core.Path.{◌≡◌}
use mathlib.Core.Bool.{Bool, true, ◌&&◌}
use lib.ListN.{length}
use borrow.Author.Tests.{eq-eqb, le-leb, eqb-true, leb-true}
use Rattle.scope.specs.Table.{Table, row_count}
use Rattle.scope.specs.Memory.{Memory, places, slots, lengths_fit}
use Rattle.scope.proofs.Tests.{and_left, and_right, and_both}

pub record Lengths (t : Table) (m : Memory) : Type 0 where
  pub reverse : length t.reverse ≡ row_count t
  pub area : length t.area ≡ row_count t
  pub head : length m.head ≡ 2
  pub parent : length m.parent ≡ places m
  pub rank : length m.rank ≡ places m
  pub cell_mark : length m.cell_mark ≡ places m
  pub slot_cell : length m.slot_cell ≡ slots m
  pub prev : length m.prev ≡ slots m
  pub next : length m.next ≡ slots m
  pub row_slot : length m.row_slot ≡ row_count t
  pub row_mark : length m.row_mark ≡ row_count t
  pub some_slots : 1 ≤ slots m
  pub most_slots : slots m ≤ 65536
  pub some_places : 1 ≤ places m
  pub most_places : places m ≤ 16384

both : (a b : Bool) → (a && b) ≡ true → (a ≡ true) × (b ≡ true)
both a b e = (and_left a b e, and_right a b e)

pub lengths_good : (t : Table) (m : Memory) → lengths_fit t m ≡ true → Lengths t m
unfolding lengths_fit
lengths_good t m e =
    let a₁ = both _ _ e in let a₂ = both _ _ a₁.0 in let a₃ = both _ _ a₂.0 in let a₄ = both _ _ a₃.0 in let a₅ = both _ _ a₄.0 in
    let table = both _ _ a₅.0 in
    let place = both _ _ a₄.1 in let place₂ = both _ _ place.0 in
    let slot = both _ _ a₃.1 in let slot₂ = both _ _ slot.0 in
    let row = both _ _ a₂.1 in
    let room = both _ _ a₁.1 in let room₂ = both _ _ room.0 in let room₃ = both _ _ room₂.0 in
    record {
      reverse = eqb-true _ _ table.0;
      area = eqb-true _ _ table.1;
      head = eqb-true _ _ a₅.1;
      parent = eqb-true _ _ place₂.0;
      rank = eqb-true _ _ place₂.1;
      cell_mark = eqb-true _ _ place.1;
      slot_cell = eqb-true _ _ slot₂.0;
      prev = eqb-true _ _ slot₂.1;
      next = eqb-true _ _ slot.1;
      row_slot = eqb-true _ _ row.0;
      row_mark = eqb-true _ _ row.1;
      some_slots = leb-true _ _ room₃.0;
      most_slots = leb-true _ _ room₃.1;
      some_places = leb-true _ _ room₂.1;
      most_places = leb-true _ _ room.1;
    }

pub lengths_kept : (t : Table) (m : Memory) → Lengths t m → lengths_fit t m ≡ true
unfolding lengths_fit
lengths_kept t m l =
    let table = and_both _ _ (eq-eqb _ _ l.reverse) (eq-eqb _ _ l.area) in
    let place = and_both _ _ (and_both _ _ (eq-eqb _ _ l.parent) (eq-eqb _ _ l.rank)) (eq-eqb _ _ l.cell_mark) in
    let slot = and_both _ _ (and_both _ _ (eq-eqb _ _ l.slot_cell) (eq-eqb _ _ l.prev)) (eq-eqb _ _ l.next) in
    let row = and_both _ _ (eq-eqb _ _ l.row_slot) (eq-eqb _ _ l.row_mark) in
    let room = and_both _ _ (and_both _ _ (and_both _ _ (le-leb _ _ l.some_slots) (le-leb _ _ l.most_slots)) (le-leb _ _ l.some_places)) (le-leb _ _ l.most_places) in
    and_both _ _ (and_both _ _ (and_both _ _ (and_both _ _ (and_both _ _ table (eq-eqb _ _ l.head)) place) slot) row) room
