-- What the local arrays of a table hold, as `scope` has it, and the bytes of a state that they have room for beside it.
-- Assumes nothing.
use Rattle.std.specs.Prelude.{◌≡◌, List, ℕ, length}
use Rattle.scope.specs.Table.{Table, table}
use Rattle.scope.specs.Bytes.{state_size}
use Rattle.lent.specs.Arrays.{Few}
use Rattle.lent.specs.declared.arrays.Sizes.{Sizes}
use Rattle.byte_limits.specs.declared.arrays.TableArrays.{TableArrays}

abbrev pub rows_of : TableArrays → Table
rows_of a = table a.edges a.reverse a.area

-- The bytes of a state of these sizes.
pub record StateFits (s : Sizes) (bytes : List ℕ) : Type 0 where
  pub few : Few s 1024 1024 256
  pub whole : length bytes ≡ state_size s.rows s.slots s.places
