-- `codec::bits_of` meets its contract: a float that differs from itself is the NaN, whose `to_bits` is the number written; any other has its own pattern.
-- Assumes nothing.
use mathlib.Core.Path.{◌≡◌, sym, subst, ◌∙◌}
use mathlib.Core.Bool.{true, false, not}
use lib.Dec.{T}
use lib.Ieee.{Float, nan, inf, fin, ne, is_nan, to_bits, binary64}
use lib.Ieee.Compare.{differs_from_itself, nan_differs}
use Rattle.codec.proofs.bits_of.Goals as goal

number : (x : Float) → ne x x ≡ false → T (not (is_nan x))
unfolding is_nan
number nan e = subst T (sym nan_differs ∙ e) tt
number (inf s) e = tt
number (fin s m k) e = tt

pub float_to_bits-result : goal.float_to_bits-result
float_to_bits-result c = number c.args.x c.if-x.false

nan_bits : (x : Float) → ne x x ≡ true → 0x7ff8_0000_0000_0000 ≡ to_bits binary64 x
unfolding to_bits
nan_bits x e = rw (differs_from_itself x (subst T (sym e) tt))

pub returns-then-x : goal.returns-then-x
returns-then-x c = nan_bits c.args.x c.if-x.true
