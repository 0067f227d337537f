-- One digit of three bits of a number, at bit s: taken away and another put in, in 64 bits.
--     old_le       the old digit's part is within the number
--     put_64       with another digit there it still fits
--     old_exact, new_exact    shifting a digit to its place loses no bit
-- Assumes nothing.
use mathlib.Core.Path.{◌≡◌, ◌∙◌, ap, sym, subst}
use Prim.Native.Nat.{ℕ, ◌+◌, ◌-◌, ◌*◌, ◌/◌, ◌%◌, ◌^◌, ◌<◌, ◌≤◌}
use native.Mathlib.Nat.{add-mul, mod-lt}
use native.Mathlib.Omega.{arith}
use lib.Pow.{split, pow_pos, pow-add, shr_lt, shl_exact}
use lib.Arith.{digits_lt}

-- the number with d for its digit, put together of three parts
abbrev put : ℕ → ℕ → ℕ → ℕ
put x s d = (x / 2 ^ s / 8 * 8 + d) * 2 ^ s + x % 2 ^ s

put_same : (x s : ℕ) → put x s (x / 2 ^ s % 8) ≡ x
put_same x s =
    let q : x / 2 ^ s / 8 * 8 + x / 2 ^ s % 8 ≡ x / 2 ^ s = omega arith in
    ap (λ (y : ℕ). y * 2 ^ s + x % 2 ^ s) q ∙ split x s

pub old_le : (x s : ℕ) → x / 2 ^ s % 8 * 2 ^ s ≤ x
old_le x s = omega (arith, put_same x s, add-mul (x / 2 ^ s / 8 * 8) (x / 2 ^ s % 8) (2 ^ s))

put_is : (x s d : ℕ) → x - x / 2 ^ s % 8 * 2 ^ s + d * 2 ^ s ≡ put x s d
put_is x s d =
    omega (
      arith,
      put_same x s,
      add-mul (x / 2 ^ s / 8 * 8) (x / 2 ^ s % 8) (2 ^ s),
      add-mul (x / 2 ^ s / 8 * 8) d (2 ^ s),
    )

put_lt : (x s d j : ℕ) → d < 8 → x < 2 ^ (j + 3 + s) → put x s d < 2 ^ (j + 3 + s)
put_lt x s d j h b =
    let p : 2 ^ (j + 3) ≡ 2 ^ j * 8 = pow-add 2 j 3 in
    let q : x / 2 ^ s < 2 ^ (j + 3) = shr_lt (j + 3) s b in
    let r : x / 2 ^ s / 8 * 8 + d < 2 ^ (j + 3) = omega arith in
    subst (λ (n : ℕ). put x s d < n) (sym (pow-add 2 (j + 3) s)) (digits_lt r (mod-lt x (pow_pos s)))

pub new_exact : (d s : ℕ) → s ≤ 61 → d < 8 → d * 2 ^ s % 2 ^ 64 ≡ d * 2 ^ s
new_exact d s h k = shl_exact 3 s 64 k (omega arith)

pub old_exact : (x s : ℕ) → s ≤ 61 → x / 2 ^ s % 8 * 2 ^ s % 2 ^ 64 ≡ x / 2 ^ s % 8 * 2 ^ s
old_exact x s h = new_exact (x / 2 ^ s % 8) s h (omega arith)

pub put_64 : (x s d : ℕ) → s ≤ 61 → d < 8 → x < 2 ^ 64 → x - x / 2 ^ s % 8 * 2 ^ s + d * 2 ^ s < 2 ^ 64
put_64 x s d h k b =
    let e : 61 - s + 3 + s ≡ 64 = omega arith in
    rw (put_is x s d) (subst (λ (n : ℕ). put x s d < 2 ^ n) e (put_lt x s d (61 - s) k (subst (λ (n : ℕ). x < 2 ^ n) (sym e) b)))
