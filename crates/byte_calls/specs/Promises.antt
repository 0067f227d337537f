-- What both ways in on bytes promise: the result and the bytes left are what `scope` says of the call.
-- Assumes nothing.
use Rattle.std.specs.Prelude.{ℕ, ◌≡◌, List, []}
use Rattle.scope.specs.Bytes.{zone_dissolving, zone_standing}

-- of a table, a list of cells, an output, a mode and the capacities: this result, and this output left
abbrev pub DissolvesBytes : List ℕ → List ℕ → List ℕ → ℕ → ℕ → ℕ → ℕ → List ℕ → Type 0
DissolvesBytes table cells out mode slots places result left = record { result = result; state = []; out = left } ≡ zone_dissolving table cells out mode slots places

-- of a table, a state, an output, the capacities, the number of a call and its value: this result, and this state and this output left
abbrev pub CallsBytes : List ℕ → List ℕ → List ℕ → ℕ → ℕ → ℕ → ℕ → ℕ → List ℕ → List ℕ → Type 0
CallsBytes table state out slots places call value result state' out' = record { result = result; state = state'; out = out' } ≡ zone_standing table state out slots places call value
