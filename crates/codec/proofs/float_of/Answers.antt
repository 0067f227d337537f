-- `codec::float_of` meets its contract: a pattern is a NaN's just where its low 63 bits are above those of infinity. Assumes nothing.
use mathlib.Core.Path.{◌≡◌, refl, sym, ◌∙◌, subst}
use mathlib.Core.Bool.{true, false}
use Prim.Native.Nat.{ℕ, ◌≤◌, ◌<◌, ◌%◌}
use borrow.Author.Tests.{lt-ltb, le-ltb}
use lib.Dec.{T}
use lib.Ieee.{Float, nan, inf, fin, binary64, is_nan, nan_bits, of_bits, div}
use lib.Ieee.Bits.{nan_bits_above, nan_bits_is}
use Rattle.codec.proofs.float_of.Goals as goal

no_nan : (n : ℕ) → n % 0x8000_0000_0000_0000 ≤ 0x7ff0_0000_0000_0000 → nan_bits binary64 n ≡ false
no_nan n h = nan_bits_above binary64 n ∙ le-ltb _ _ h

pub float_from_bits-result : goal.float_from_bits-result
float_from_bits-result c = rw (no_nan c.args.bits c.if-bits-gt9218868437227405312.false) tt

is_nan_lem : (x : Float) → is_nan x ≡ true → nan ≡ x
unfolding is_nan
is_nan_lem nan e = refl
is_nan_lem (inf s) e = absurd (subst T (sym e) tt)
is_nan_lem (fin s m k) e = absurd (subst T (sym e) tt)

read_nan : (n : ℕ) → 0x7ff0_0000_0000_0000 < n % 0x8000_0000_0000_0000 → nan ≡ of_bits binary64 n
read_nan n h = is_nan_lem (of_bits binary64 n) (sym (nan_bits_is binary64 n) ∙ nan_bits_above binary64 n ∙ lt-ltb _ _ h)

zero_by_zero : div binary64 (of_bits binary64 0) (of_bits binary64 0) ≡ nan
unfolding div of_bits
zero_by_zero = refl

pub returns-then-bits-gt9218868437227405312 : goal.returns-then-bits-gt9218868437227405312
returns-then-bits-gt9218868437227405312 c = zero_by_zero ∙ read_nan c.args.bits c.if-bits-gt9218868437227405312.true
