-- A digest of a list of numbers: outlines are compared by it.
-- Assumes nothing.
use Rattle.std.specs.Prelude.{ℕ, ◌+◌, ◌*◌, ◌%◌, List, [], ◌∷◌}

unfoldable pub digest_from : ℕ → List ℕ → ℕ
digest_from sum [] = sum
digest_from sum (x ∷ xs) = digest_from ((sum * 31 + x % 1000000007) % 1000000007) xs
