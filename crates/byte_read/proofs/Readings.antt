-- Read out of what was decoded into cleared outputs is read out of the bytes' table and state.
-- Assumes nothing.
use mathlib.Core.Path.{◌≡◌}
use mathlib.Core.List.{List}
use Prim.Native.Nat.{ℕ}
use Rattle.scope.specs.Table.{Table, row_count}
use Rattle.scope.specs.Memory.{Memory, Output}
use Rattle.scope.specs.Calls.{reading_out}
use Rattle.scope.specs.Bytes.{rows_in, table_in, cleared_output}
use Rattle.byte_limits.proofs.Rooms.{table_rows}

pub read_decoded : (b : List ℕ) {t : Table} {m m' : Memory} {o : Output} → t ≡ table_in b → m ≡ m' → o ≡ cleared_output (rows_in b)
    → reading_out t m o ≡ reading_out (table_in b) m' (cleared_output (row_count (table_in b)))
read_decoded b p q r = rw (p, q, r, table_rows b)
