-- Binary digits of a word of flags.
--     zero_none                  0 has no digit
--     lowest_low                 no digit stands below the trailing zeros
--     without_lowest             a number and the one before it share all digits but the lowest
--     or_left, or_right          a digit of one of two numbers is in their or
--     power_digit, ones_digit    the digit of a power of two, and of a word of ones
-- Assumes nothing.
use mathlib.Core.Path.{◌≡◌, refl, ap}
use mathlib.Core.Logic.{◌≢◌}
use Prim.Native.Nat.{ℕ, zero, suc, ◌-◌, ◌/◌, ◌%◌, ◌^◌, ◌≤◌, ◌<◌, max}
use native.Mathlib.Nat.{pow-suc}
use native.Mathlib.Omega.{arith}
use lib.Bits.{bit_and, bit_or, and_shr, or_shr, or_step, or_comm, and_self}
use lib.Count.{count_trailing_zeros, under}
use lib.Pow.{pow_pos}
use Rattle.free_slots.specs.Search.{digit_at}

pub zero_none : (k : ℕ) → digit_at 0 k ≡ 0
unfolding digit_at
zero_none zero = refl
zero_none (suc k) = zero_none k

-- ---- the lowest digit

pub lowest_low : (d n k : ℕ) → k < d → digit_at n k ≡ 1 → count_trailing_zeros d n ≤ k
unfolding digit_at count_trailing_zeros
lowest_low zero n k h e = absurd (omega arith)
lowest_low (suc d) n zero h e = rw e (omega arith)
lowest_low (suc d) n (suc k) h e = go (n % 2) (lowest_low d (n / 2) k (omega arith) e)
  where
    go : (r : ℕ) → count_trailing_zeros d (n / 2) ≤ k → under r (count_trailing_zeros d (n / 2)) ≤ suc k
    go zero l = omega arith
    go (suc r) l = omega arith

and_half : (a b : ℕ) → bit_and a b / 2 ≡ bit_and (a / 2) (b / 2)
and_half a b = and_shr a b 1

pub without_lowest : (d n k : ℕ) → k < d → digit_at n k ≡ 1 → k ≢ count_trailing_zeros d n → digit_at (bit_and n (n - 1)) k ≡ 1
unfolding digit_at count_trailing_zeros
without_lowest zero n k h e d = absurd (omega arith)
without_lowest (suc b) n zero h e d = absurd (d (rw e))
without_lowest (suc b) n (suc k) h e d = go (n % 2) refl d (without_lowest b (n / 2) k (omega arith) e)
  where
    go : (r : ℕ) → n % 2 ≡ r → suc k ≢ under r (count_trailing_zeros b (n / 2)) → (k ≢ count_trailing_zeros b (n / 2) → digit_at (bit_and (n / 2) (n / 2 - 1)) k ≡ 1)
        → digit_at (bit_and n (n - 1) / 2) k ≡ 1
    go zero q f rest =
        let before : (n - 1) / 2 ≡ n / 2 - 1 = omega arith in
        rw (and_half n (n - 1), before) (rest (λ g. f (ap suc g)))
    go (suc r) q f rest =
        let before : (n - 1) / 2 ≡ n / 2 = omega arith in
        rw (and_half n (n - 1), before, and_self) e

-- ---- the digits of both

or_half : (a b : ℕ) → bit_or a b / 2 ≡ bit_or (a / 2) (b / 2)
or_half a b = or_shr a b 1

max_one : (r : ℕ) → r < 2 → max 1 r ≡ 1
max_one zero h = refl
max_one (suc zero) h = refl
max_one (suc (suc r)) h = absurd (omega arith)

pub or_left : (a b k : ℕ) → digit_at a k ≡ 1 → digit_at (bit_or a b) k ≡ 1
unfolding digit_at
or_left a b zero e =
    let both : max (a % 2) (b % 2) ≡ 1 = rw e (max_one (b % 2) (omega arith)) in
    let step = or_step a b in omega (arith, step, both)
or_left a b (suc k) e = rw (or_half a b) (or_left (a / 2) (b / 2) k e)

pub or_right : (a b k : ℕ) → digit_at b k ≡ 1 → digit_at (bit_or a b) k ≡ 1
or_right a b k e = rw (or_comm a b) (or_left b a k e)

-- ---- words

pub power_digit : (k : ℕ) → digit_at (2 ^ k) k ≡ 1
unfolding digit_at
power_digit zero = refl
power_digit (suc k) =
    let half : 2 ^ suc k / 2 ≡ 2 ^ k = let p = pow-suc 2 k in omega arith in
    rw half (power_digit k)

pub ones_digit : (d k : ℕ) → k < d → digit_at (2 ^ d - 1) k ≡ 1
unfolding digit_at
ones_digit zero k h = absurd (omega arith)
ones_digit (suc d) zero h = let p = pow-suc 2 d in let q = pow_pos d in omega arith
ones_digit (suc d) (suc k) h =
    let half : (2 ^ suc d - 1) / 2 ≡ 2 ^ d - 1 = let p = pow-suc 2 d in let q = pow_pos d in omega arith in
    rw half (ones_digit d k (omega arith))
