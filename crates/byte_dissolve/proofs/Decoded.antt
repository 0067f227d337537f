-- Dissolve of what was decoded is dissolve of the bytes' table and list.
-- Assumes nothing.
use Prim.Native.Nat.{ℕ}
use mathlib.Core.Path.{◌≡◌}
use mathlib.Core.List.{List}
use Rattle.scope.specs.Memory.{Memory, Output}
use Rattle.scope.specs.Table.{Table}
use Rattle.scope.specs.Calls.{dissolving}

pub dissolve_decoded : (mode : ℕ) {t t' : Table} {m m' : Memory} {l l' : List ℕ} {o o' : Output} → t ≡ t' → m ≡ m' → l ≡ l' → o ≡ o'
    → dissolving t m mode l o ≡ dissolving t' m' mode l' o'
dissolve_decoded mode p q r s = rw (p, q, r, s)
