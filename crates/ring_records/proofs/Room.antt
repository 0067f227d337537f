-- A place below the length of a slice of records, as an offset in bytes, fits a usize: the slice's room says that its bytes fit an isize.
-- Assumes nothing.
use Prim.Native.Nat.{ℕ, ◌*◌, ◌<◌, ◌^◌}
use native.Mathlib.Omega.{arith}

pub bytes_24 : (i n : ℕ) → i < n → n * 24 < 2 ^ 63 → i * 24 < 2 ^ 64
bytes_24 i n l g = omega (arith, l, g)
