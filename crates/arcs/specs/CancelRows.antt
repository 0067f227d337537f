-- Cancelling the pairs of a placed outline, row after row.
-- Assumes nothing.
use Rattle.std.specs.Prelude.{◌≡◌, ◌⊎◌, true, ℕ, ◌+◌, ◌*◌, ◌<◌, ◌≤◌, ◌^◌, length}
use mathlib.Core.List.{List, [], Memᴰ}
use Rattle.scope.specs.Lists.{at}
use Rattle.scope.specs.Table.{Table, row_count, reverse_of}
use Rattle.scope.specs.Memory.{Memory, slots}
use Rattle.scope.specs.Pool.{cancels, reverse_slot, met_first, cancelled}
use Rattle.scope.proofs.Members.{Fresh}
use Rattle.scope.proofs.Successor.{Reverses}
use Rattle.scope.proofs.Rules.{SlotFree}
use Rattle.scope.proofs.Linked.{Used, Has, Linked}
use Rattle.scope.proofs.Halving.{Forest}
use Rattle.placing.specs.Place.{free_in, slots_at}
use Rattle.pairs.specs.Cancel.{PairAsks, PairCancelled}

-- A table of which only the reverse rows matter.
abbrev pub reverses : List ℕ → Table
reverses reverse = record { edges = reverse; reverse = reverse; area = [] }

-- ---- one row

pub record RowAsks (reverse : List ℕ) (m : Memory) (n row : ℕ) : Type 0 where
  pub row_in : row < length reverse
  pub back_in : at reverse row < length m.row_slot
  pub pair : (at m.row_slot (at reverse row) ≡ 0 → ⊥) → PairAsks m n row (at reverse row)

-- Where its reverse has no slot, nothing is done; else the pair cancels.
abbrev pub RowCancelled : List ℕ → Memory → ℕ → ℕ → ℕ → Memory → Type 0
RowCancelled reverse m n row pairs m' =
    ((at m.row_slot (at reverse row) ≡ 0) × (pairs ≡ 0) × (m' ≡ m))
    ⊎ ((at m.row_slot (at reverse row) ≡ 0 → ⊥) × (pairs ≡ 1) × PairCancelled m n row (at reverse row) m')

-- ---- all rows

-- Slots and rows point at each other, the links go round, free slots are cleared, cells are held; the outline's rows are different and have
-- slots, and of each pair that cancels one is of the outline. The rest are sizes that fit.
pub record CancelAsks (t : Table) (m : Memory) (n : ℕ) (o : List ℕ) : Type 0 where
  pub reverses : Reverses (λ a. a < row_count t) (reverse_of t)
  pub linked : Linked t m
  pub free : (s : ℕ) → s < slots m → at m.slot_row s ≡ 0 → SlotFree m s
  pub cells : (s : ℕ) → Used m s → at m.slot_cell s < n
  pub forest : Forest m.parent m.rank n
  pub once : Fresh o
  pub has : (i : ℕ) → i < length o → Has m (at o i)
  pub met : (s : ℕ) → cancels t m s ≡ true → Memᴰ s (slots_at m.row_slot o) ⊎ Memᴰ (reverse_slot t m s) (slots_at m.row_slot o)
  pub even_reverse : length t.reverse ≡ row_count t
  pub even_cell : length m.slot_cell ≡ slots m
  pub even_prev : length m.prev ≡ slots m
  pub even_next : length m.next ≡ slots m
  pub slots_fit : slots m ≤ 2 ^ 32
  pub cells_fit : n < 2 ^ 32

-- The state left is the one that `cancelled` defines. The answer is the number of its pairs: so many pairs of slots are free again.
pub record RowsCancelled (t : Table) (m : Memory) (n : ℕ) (o : List ℕ) (pairs : ℕ) (m' : Memory) : Type 0 where
  pub left : m' ≡ cancelled t m (slots_at m.row_slot o)
  pub count : pairs ≡ length (met_first t m [] (slots_at m.row_slot o))
  pub free : length (free_in m'.slot_row) ≡ length (free_in m.slot_row) + 2 * pairs
