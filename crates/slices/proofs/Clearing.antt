-- A loop that clears a list from the front, one store a turn.
-- Assumes nothing.
use Prim.Native.Nat.{ℕ, zero, suc, ◌+◌, ◌<◌}
use mathlib.Core.Path.{◌≡◌, refl, sym, ap, subst}
use mathlib.Core.List.{List, [], ◌∷◌, ◌++◌}
use native.Mathlib.Nat.{not-suc-le-zero, le_of_suc-le-suc}
use native.Mathlib.Numerals.{add-one}
use lib.ListN.{length, set, drop, replicate}

clear_next : {A : Type 0} (n : ℕ) (z : A) (d : List A) → n < length d → set (replicate n z ++ drop n d) n z ≡ replicate (suc n) z ++ drop (suc n) d
clear_next n z [] l = absurd (not-suc-le-zero l)
clear_next zero z (x ∷ d) l = refl
clear_next (suc n) z (x ∷ d) l = ap (λ t. z ∷ t) (clear_next n z d (le_of_suc-le-suc l))

-- what n stores have cleared, and one more
pub clear_more : {A : Type 0} (n : ℕ) (z : A) (d : List A) → n < length d → set (replicate n z ++ drop n d) n z ≡ replicate (n + 1) z ++ drop (n + 1) d
clear_more n z d l = subst (λ (k : ℕ). set (replicate n z ++ drop n d) n z ≡ replicate k z ++ drop k d) (sym (add-one n)) (clear_next n z d l)
