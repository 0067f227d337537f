-- A float is finite where its difference from itself is equal to itself: an infinity or a NaN less itself is a NaN.
--     finite_is     the test is `is_finite`
-- Assumes nothing.
use mathlib.Core.Path.{◌≡◌, refl, sym}
use mathlib.Core.Bool.{Bool, true, false, cond, ◌&&◌, beq, not}
use Prim.Native.Nat.{ℕ, zero, suc, ◌+◌, ◌-◌, ◌*◌, ◌^◌}
use lib.Dec.{ltb}
use lib.Ieee.{Float, nan, inf, fin, Format, binary64, odd, units, round, sum, add, sub, neg, eq, is_nan, up, down, low, emax, prec}
use borrow.Author.Tests.{eq-eqb}
use Rattle.scope.specs.Table.{is_finite}

odd_number : (d : ℕ) (s : Bool) (q k l : ℕ) → is_nan (odd d s q k l) ≡ false
unfolding odd is_nan
odd_number d s zero k l = refl
odd_number d s (suc q) k l = refl

of_both : (b : Bool) (x y : Float) → is_nan x ≡ false → is_nan y ≡ false → is_nan (cond b x y) ≡ false
of_both true x y p q = p
of_both false x y p q = q

units_number : (f : Format) (s : Bool) (q k : ℕ) → is_nan (units f s q k) ≡ false
unfolding units is_nan
units_number f s q k = of_both (ltb (q * 2 ^ k) (2 ^ (low f + suc (emax f)))) (odd (suc (prec f)) s q k (low f)) (inf s) (odd_number (suc (prec f)) s q k (low f)) refl

round_number : (f : Format) (s : Bool) (n d : ℕ) → is_nan (round f s n d) ≡ false
unfolding round
round_number f s n d = units_number f s _ _

-- no sum of two finite numbers is a NaN
sum_number : (f : Format) (s : Bool) (a : ℕ) (t : Bool) (b c : ℕ) → is_nan (sum f s a t b c) ≡ false
unfolding sum
sum_number f s a t b c =
    of_both (beq s t) (round f s (a + b) c) (cond (ltb a b) (round f t (b - a) c) (round f (s && ltb b a) (a - b) c)) (round_number f s (a + b) c)
    (of_both (ltb a b) (round f t (b - a) c) (round f (s && ltb b a) (a - b) c) (round_number f t (b - a) c) (round_number f (s && ltb b a) (a - b) c))

self_equal : (x : Float) → is_nan x ≡ false → eq x x ≡ true
unfolding is_nan eq
self_equal nan e = sym e
self_equal (inf true) e = refl
self_equal (inf false) e = refl
self_equal (fin true m k) e = rw (eq-eqb (m * up k * down k) _ refl)
self_equal (fin false m k) e = rw (eq-eqb (m * up k * down k) _ refl)

pub finite_is : (x : Float) → eq (sub binary64 x x) (sub binary64 x x) ≡ is_finite x
unfolding sub neg add eq is_finite is_nan
finite_is nan = refl
finite_is (inf true) = refl
finite_is (inf false) = refl
finite_is (fin s m e) = self_equal (sub binary64 (fin s m e) (fin s m e)) (sum_number binary64 s (m * up e * down e) (not s) (m * up e * down e) (down e * down e))
