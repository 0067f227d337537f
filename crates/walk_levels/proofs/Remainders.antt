-- The packed remainders: no comparison with 0 or 1 notices that 3 stands for the remainder 2.
--     packed         the two bits of `MOD3_LUT` at a position
--     packed_same    to compare them with the resolution's remainder by 2 is to compare the position's by 3
-- Assumes nothing.
use mathlib.Core.Path.{◌≡◌, refl}
use mathlib.Core.Bool.{beq}
use Prim.Native.Nat.{ℕ, suc, zero, ◌*◌, ◌/◌, ◌%◌, ◌^◌, ◌<◌}
use native.Mathlib.Omega.{arith}
use lib.Dec.{eqb}
use Rattle.scope.specs.Lists.{first_bad, from}
use Rattle.scope.proofs.Entries.{beq_eq}
use Rattle.scope.proofs.Scan.{passes_at}

abbrev pub packed : ℕ → ℕ
packed p = 0xfffffffd34d34d34 / 2 ^ (2 * p) % 4

-- computed at each of the 18 positions, for 0 and for 1
with_bit : (m p : ℕ) → m < 2 → p < 18 → eqb (packed p) m ≡ eqb (p % 3) m
unfolding first_bad from
with_bit zero p l h = beq_eq _ _ (passes_at (λ k. beq (eqb (packed k) 0) (eqb (k % 3) 0)) 18 refl p h)
with_bit (suc zero) p l h = beq_eq _ _ (passes_at (λ k. beq (eqb (packed k) 1) (eqb (k % 3) 1)) 18 refl p h)
with_bit (suc (suc m)) p l h = absurd (omega arith)

pub packed_same : (p r : ℕ) → p < 18 → eqb (packed p) (r % 2) ≡ eqb (p % 3) (r % 2)
packed_same p r h = with_bit (r % 2) p (omega arith) h
