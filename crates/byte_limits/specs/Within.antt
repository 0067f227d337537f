-- Bytes within the host's limits, so that a local array for each column has room.
-- Assumes nothing.
use Rattle.std.specs.Prelude.{ℕ, ◌/◌, ◌≤◌, ◌≡◌, List, length}
use Rattle.scope.specs.Bytes.{rows_in, state_size}

pub record DissolveWithin (tableBytes cellBytes : List ℕ) (slots places : ℕ) : Type 0 where
  pub few_rows : rows_in tableBytes ≤ 1024
  pub few_cells : length cellBytes / 8 ≤ 256
  pub few_slots : slots ≤ 1024
  pub few_places : places ≤ 256

pub record StandingWithin (tableBytes state : List ℕ) (slots places : ℕ) : Type 0 where
  pub few_rows : rows_in tableBytes ≤ 1024
  pub few_slots : slots ≤ 1024
  pub few_places : places ≤ 256
  pub whole : length state ≡ state_size (rows_in tableBytes) slots places
