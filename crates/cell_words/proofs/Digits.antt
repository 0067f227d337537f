-- Hexadecimal digits as the library has them.
--     digit_worth, digit_small     what a digit is worth, below 16
--     all_digits                   where as many stand in front as there are bytes, each is one
-- Assumes nothing.
use Prim.Native.Nat.{ℕ, zero, suc, ◌+◌, ◌<◌}
use mathlib.Core.Path.{◌≡◌}
use mathlib.Core.Bool.{Bool, true, false}
use mathlib.Core.List.{List, [], ◌∷◌}
use mathlib.Core.Logic.{⊎_elim}
use native.Mathlib.Omega.{arith}
use lib.ListN.{length}
use Rattle.std.proofs.lemmas.Bool.Decides.{nat_tests}
use Rattle.std.specs.Char.{digit_value}
use Rattle.std.specs.List.{All, take_while, prefix_len}
use Rattle.scope.proofs.Tests.{either}
use Rattle.cell_words.specs.Words.{is_digit, worth}

pub digit_small : (b : ℕ) → is_digit b ≡ true → digit_value b < 16
digit_small b e = grind (arith, nat_tests)

pub digit_worth : (b : ℕ) → is_digit b ≡ true → digit_value b ≡ worth b
digit_worth b e = grind (arith, nat_tests)

more : (p : ℕ → Bool) (x : ℕ) (s : List ℕ) → p x ≡ true → All (λ b. p b ≡ true) s → All (λ b. p b ≡ true) (x ∷ s)
more p x s e a zero d l = e
more p x s e a (suc k) d l = a k d (omega arith)

front : (p : ℕ → Bool) (s : List ℕ) → length (take_while p s) ≡ length s → All (λ b. p b ≡ true) s
front p [] h = λ k d l. absurd (omega arith)
front p (x ∷ s) h = ⊎_elim
    (λ (e : p x ≡ true). let z : 1 + prefix_len p s ≡ suc (prefix_len p s) = omega arith in let t = rw (e, z) at h in more p x s e (front p s (omega arith)))
    (λ (e : p x ≡ false). let t = rw e at h in absurd (omega arith))
    (either (p x))

pub all_digits : (s : List ℕ) {n : ℕ} → n ≡ length (take_while is_digit s) → n ≡ length s → All (λ b. is_digit b ≡ true) s
all_digits s p q = front is_digit s (let z : length (take_while is_digit s) ≡ length s = omega arith in z)
