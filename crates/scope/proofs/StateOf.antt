-- A memory as a state of the laws of History: what it shows of the accepted cells is what the state holds.
--     state_of m                  rows with a slot, the row of the next slot, the place of the slot's cell, the root by parents
--     shows_holds, holds_shows   `Shows t m cs` is `Holds t cs (state_of m)`
-- Assumes nothing.
use mathlib.Core.Path.{◌≡◌}
use mathlib.Core.List.{List}
use Prim.Native.Nat.{ℕ, ◌<◌}
use native.Mathlib.Omega.{arith}
use lib.ListN.{length}
use Rattle.scope.specs.Lists.{at}
use Rattle.scope.specs.Table.{Table, row_count}
use Rattle.scope.specs.Memory.{Memory, held, held_cells, slot_of}
use Rattle.scope.specs.UnionFind.{root_of}
use Rattle.scope.specs.Order.{next_row}
use Rattle.scope.specs.Demands.{Shows}
use Rattle.scope.proofs.Linked.{at_in, Has, has_true, true_has}
use Rattle.scope.proofs.Proper.{Proper, proper_given}
use Rattle.scope.proofs.States.{State, Holds}

abbrev pub state_of : Memory → State
state_of m = record {
  has = Has m;
  link = next_row m.row_slot m.slot_row m.next;
  cell = λ a. at m.slot_cell (slot_of m a);
  root = root_of m.parent;
}

module _ (t : Table) (m : Memory) (cs : List ℕ) (rows : length m.row_slot ≡ row_count t) (count : held m ≡ length cs) where
  small : (a : ℕ) → Has m a → a < row_count t
  small a h = let k = at_in m.row_slot a h in omega arith

  pub shows_holds : Proper t cs → ((a : ℕ) → Has m a → at m.slot_cell (slot_of m a) < held m) → Shows t m cs → Holds t cs (state_of m)
  shows_holds P owned S = record {
    stands = λ a h. (S.stands a (small a h)).0 (has_true m a h);
    all = λ a s. true_has m a ((S.stands a (proper_given P a s.0)).1 s);
    links = λ a h. S.links a (small a h) (has_true m a h);
    place = λ a h. let k = owned a h in omega arith;
    gives = λ a h. S.gives a (small a h) (has_true m a h);
    groups = λ p q h k. S.groups p q (omega arith) (omega arith);
  }

  pub holds_shows : held_cells m ≡ cs → Holds t cs (state_of m) → Shows t m cs
  holds_shows e K = record {
    cells = e;
    stands = λ a h. (λ k. K.stands a (true_has m a k), λ s. has_true m a (K.all a s));
    gives = λ a h k. K.gives a (true_has m a k);
    links = λ a h k. K.links a (true_has m a k);
    groups = λ i j h k. K.groups i j (omega arith) (omega arith);
  }
