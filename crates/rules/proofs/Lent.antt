-- Slices that are lent on by the length of another, with which they agree, are whole.
-- Assumes nothing.
use Prim.Native.Nat.{ℕ}
use mathlib.Core.Path.{◌≡◌}
use mathlib.Core.Bool.{Bool}
use mathlib.Core.List.{[]}
use native.Mathlib.Omega.{arith}
use lib.ListN.{length, take}
use lib.Seq.{take_all}
use Rattle.scope.specs.Lists.{passes}
use Rattle.scope.specs.Table.{Table, table}
use Rattle.scope.specs.Memory.{Memory}
use Rattle.slot_rules.specs.Slices.{pool, slot_ahead}
use Rattle.rules.specs.Slices.{Lent}

module _ (t : Table) (m : Memory)
    (L : Lent t m) where
  pub lent_on : (n : ℕ) {d : Bool}
      → d ≡ passes (slot_ahead (table t.edges (take (length t.edges) t.reverse) []) (pool n m.cells m.slot_row (take (length m.slot_row) m.slot_cell) (take (length m.slot_row) m.prev) (take (length m.slot_row) m.next) (take (length t.edges) m.row_slot))) (length m.slot_row)
      → d ≡ passes (slot_ahead (table t.edges t.reverse []) (pool n m.cells m.slot_row m.slot_cell m.prev m.next m.row_slot)) (length m.slot_row)
  lent_on n e =
      rw (
        take_all (length t.edges) t.reverse (omega (arith, L.lengths.reverse)),
        take_all (length m.slot_row) m.slot_cell (omega (arith, L.lengths.slot_cell)),
        take_all (length m.slot_row) m.prev (omega (arith, L.lengths.prev)),
        take_all (length m.slot_row) m.next (omega (arith, L.lengths.next)),
        take_all (length t.edges) m.row_slot (omega (arith, L.lengths.row_slot)),
      ) at e
