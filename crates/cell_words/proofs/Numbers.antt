-- The number in a run of hexadecimal digits, digit by digit.
--     Reads, reads_none, reads_next     what the loop has shown at place i, and its moves
--     room                              one more of sixteen digits fits 64 bits
-- Assumes nothing.
use Prim.Native.Nat.{ℕ, ◌+◌, ◌*◌, ◌^◌, ◌≤◌, ◌<◌}
use mathlib.Core.Path.{◌≡◌, refl, sym, ◌∙◌, ap}
use mathlib.Core.List.{List}
use native.Mathlib.Numerals.{add-one}
use native.Mathlib.Nat.{pow-suc, pow-le-pow_right}
use native.Mathlib.Omega.{arith}
use lib.Dec.{lit<}
use lib.ListN.{length}
use Rattle.scope.specs.Lists.{at}
use Rattle.cell_words.specs.Words.{worth, number_in}

pub record Reads (d : List ℕ) (number i : ℕ) : Type 0 where
  pub within : i ≤ length d
  pub value : number ≡ number_in d i
  pub small : number < 16 ^ i

pub reads_none : (d : List ℕ) → Reads d 0 0
unfolding number_in
reads_none d = record { within = omega arith; value = refl; small = lit< tt }

module _ {d : List ℕ} {number i : ℕ} (R : Reads d number i) where
  pub room : i < 16 → number * 16 + 15 < 2 ^ 64
  room h = let p : 16 ^ i ≤ 16 ^ 15 = pow-le-pow_right (lit< tt) (let z : i ≤ 15 = omega arith in z) in omega (arith, R.small)

  pub reads_next : i < length d → (w : ℕ) → (w ≡ worth (at d i)) × (w < 16) → Reads d (number * 16 + w) (i + 1)
  unfolding number_in
  reads_next h w e =
      let p : 16 ^ (i + 1) ≡ 16 ^ i * 16 = ap (λ (k : ℕ). 16 ^ k) (add-one i) ∙ pow-suc 16 i in
      record {
        within = omega arith;
        value = ap (λ (n : ℕ). n * 16 + w) R.value ∙ ap (λ (v : ℕ). number_in d i * 16 + v) e.0 ∙ ap (number_in d) (sym (add-one i));
        small = omega (arith, R.small);
      }
