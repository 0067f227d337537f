-- Places of notes, and the notes after each row.
--     product_fits, place_in     the place among n notes is worked out in 64 bits, and is below n
--     Noting es l₀ l row         the notes once the rows below `row` are noted
--     noting_start, noting_more, noting_done     begin; one more row; every row
-- Assumes nothing.
use Prim.Native.Nat.{ℕ, suc, ◌+◌, ◌*◌, ◌/◌, ◌^◌, ◌<◌, ◌≤◌}
use mathlib.Core.Path.{◌≡◌, refl, ◌∙◌, ap}
use mathlib.Core.List.{List}
use native.Mathlib.Nat.{mul_comm, mul-le-mul, mul-lt-mul_of_pos_right, div-lt_iff_lt-mul}
use native.Mathlib.Omega.{arith}
use lib.ListN.{length, set, length-set}
use Rattle.scope.specs.Lists.{at}
use Rattle.row_search.specs.Notes.{note_place, noted}

pub product_fits : (x n : ℕ) → x < 2 ^ 32 → n ≤ 2 ^ 32 → x * n < 2 ^ 64
product_fits x n h k =
    let l : x ≤ 4294967295 = omega arith in
    let w : x * n ≤ 4294967295 * 4294967296 = mul-le-mul l k in
    omega arith

pub place_in : (x n : ℕ) → x < 2 ^ 32 → 0 < n → x * n / 2 ^ 32 < n
place_in x n h k =
    let w : x * n < 2 ^ 32 * n = mul-lt-mul_of_pos_right h k in
    (div-lt_iff_lt-mul {k = 2 ^ 32} (omega arith)).1 (rw (mul_comm n (2 ^ 32)) w)

pub record Noting (es l₀ l : List ℕ) (row : ℕ) : Type 0 where
  pub notes : l ≡ noted es l₀ row
  pub long : length l ≡ length l₀
  pub within : row ≤ length es

pub noting_start : {es l : List ℕ} → Noting es l l 0
unfolding noted
noting_start = record { notes = refl; long = refl; within = omega arith }

module _ {es l₀ l : List ℕ} {row : ℕ} (n : Noting es l₀ l row) where
  pub noting_more : {l' : List ℕ} {place : ℕ} → row < length es → place ≡ note_place (length l) (at es row) → l' ≡ set l place row
      → Noting es l₀ l' (row + 1)
  unfolding noted
  noting_more {l'} {place} h p e = record {
    notes = rw (e, p, n.long, n.notes, let z : row + 1 ≡ suc row = omega arith in z);
    long = rw (e, length-set l place row) n.long;
    within = omega arith;
  }

  pub noting_done : length es ≤ row → l ≡ noted es l₀ (length es)
  noting_done h = let w : row ≡ length es = omega (arith, n.within) in n.notes ∙ ap (noted es l₀) w
