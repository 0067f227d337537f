-- Notes of where rows stand, for the search: a scratch list with a row for each class of edges.
-- Assumes nothing.
use Rattle.std.specs.Prelude.{ℕ, zero, suc, ◌+◌, ◌-◌, ◌*◌, ◌/◌, ◌%◌, ◌^◌, List, length, set}
use Rattle.scope.specs.Lists.{at}
use Rattle.scope.specs.Cells.{resolution_of}

-- The last digits of an edge up to its resolution and its edge number, spread over 32 bits.
unfoldable pub spread_of : ℕ → ℕ
spread_of e = (e / 2 ^ (3 * (15 - resolution_of e)) % 2 ^ 28 + e / 2 ^ 56 % 8 * 2 ^ 28) * 2654435761 % 2 ^ 32

-- The place of an edge's note among n.
unfoldable pub note_place : ℕ → ℕ → ℕ
note_place n e = spread_of e * n / 2 ^ 32

-- The notes after the first n rows.
unfoldable pub noted : List ℕ → List ℕ → ℕ → List ℕ
noted es l zero = l
noted es l (suc n) = set (noted es l n) (note_place (length l) (at es n)) n
