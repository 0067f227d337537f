-- The edges of an outline in one number.
-- Assumes nothing.
use Rattle.std.specs.Prelude.{ℕ, ◌&&◌, cond, List, [], ◌∷◌, leb}
use Rattle.std.specs.Int.Bits.{bit_xor}
use Rattle.scope.specs.Cells.{valid_cell}
use Rattle.scope.specs.Walk.{outline}

unfoldable pub mix_from : ℕ → List ℕ → ℕ
mix_from m [] = m
mix_from m (x ∷ xs) = mix_from (bit_xor m x) xs

-- of a valid cell and a resolution; 0 else
unfoldable pub mixed : ℕ → ℕ → ℕ
mixed x t = cond (valid_cell x && leb t 15) (mix_from 0 (outline x t)) 0
