-- The reason behind a number, told by its bits as a number of 32 bits: those of a number below 0 are the bits of no error that has a name.
-- Assumes nothing.
use Prim.Native.Nat.{ℕ, suc, ◌-◌, ◌^◌, ◌≤◌, ◌<◌}
use mathlib.Core.Path.{◌≡◌, refl}
use mathlib.Core.Bool.{false}
use lib.Dec.{eqb}
use lib.IntN.{ℤ, pos, negsuc}
use native.Mathlib.Omega.{arith}
use borrow.Author.Tests.{ne_eqb}
use mir.Syntax.{w32}
use mir.Val.{SFits, of_z}
use Rattle.files.specs.declared.Reason.TheVariants as reason
use Rattle.files.specs.Files.{reason_by, reason_of}

-- a number above all that have a name
large : (b : ℕ) → 21 < b → reason_by b ≡ reason.Other
large b h =
    let other : (k : ℕ) → k ≤ 21 → eqb b k ≡ false = λ k l. ne_eqb b k (λ e. omega arith) in
    rw (other 2 (omega arith), other 20 (omega arith), other 21 (omega arith), other 13 (omega arith), other 1 (omega arith)) refl

pub reason_bits : (z : ℤ) → SFits w32 z → reason_by (of_z w32 z) ≡ reason_of z
unfolding reason_of
reason_bits (pos n) f = refl
reason_bits (negsuc n) f = let h : n < 2 ^ 31 = f.sfits in large (2 ^ 32 - suc n) (omega arith)
