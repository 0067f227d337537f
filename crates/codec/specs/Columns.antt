-- A column of values, whatever they are: a list for every length, each one value longer than the one before.
--     tabulated, mapped     columns of numbers, and of what is made of them
-- Assumes nothing.
use Rattle.std.specs.Prelude.{◌≡◌, ℕ, zero, suc, ◌+◌, List, [], ◌∷◌, ◌++◌, map, length, refl}
use Rattle.std.proofs.Common.{sym, ◌∙◌, ap}
use Rattle.std.proofs.Math.Nat.{add-zero, zero-add, add-suc, suc-add}
use Rattle.std.proofs.Math.Numerals.{add-one}
use Rattle.std.proofs.Math.ListN.{length-map}
use Rattle.scope.specs.Lists.{tabulate_from, tabulate}
use Rattle.scope.proofs.Below.{tabulate_length}

pub record Grows {A : Type 0} (column : ℕ → List A) (f : ℕ → A) : Type 0 where
  pub none : column 0 ≡ []
  pub more : (i : ℕ) → column (i + 1) ≡ column i ++ (f i ∷ [])
  pub count : (i : ℕ) → length (column i) ≡ i

tabulate_last : (f : ℕ → ℕ) (i n : ℕ) → tabulate_from f i (suc n) ≡ tabulate_from f i n ++ (f (i + n) ∷ [])
unfolding tabulate_from
tabulate_last f i zero = ap (λ (k : ℕ). f k ∷ []) (sym (add-zero i))
tabulate_last f i (suc n) = ap (λ (l : List ℕ). f i ∷ l) (tabulate_last f (suc i) n
    ∙ ap (λ (k : ℕ). tabulate_from f (suc i) n ++ (f k ∷ [])) (suc-add i n ∙ sym (add-suc i n)))

pub tabulated : (f : ℕ → ℕ) → Grows (tabulate f) f
unfolding tabulate_from
tabulated f = record {
  none = refl;
  more = λ i. ap (tabulate f) (add-one i) ∙ tabulate_last f 0 i ∙ ap (λ (k : ℕ). tabulate f i ++ (f k ∷ [])) (zero-add i);
  count = tabulate_length f 0;
}

map_last : {A : Type 0} (g : ℕ → A) (l : List ℕ) (x : ℕ) → map g (l ++ (x ∷ [])) ≡ map g l ++ (g x ∷ [])
map_last g [] x = refl
map_last g (y ∷ l) x = ap (λ k. g y ∷ k) (map_last g l x)

pub mapped : {A : Type 0} (g : ℕ → A) (f : ℕ → ℕ) → Grows (λ n. map g (tabulate f n)) (λ i. g (f i))
mapped g f = record {
  none = ap (map g) (tabulated f).none;
  more = λ i. ap (map g) ((tabulated f).more i) ∙ map_last g (tabulate f i) (f i);
  count = λ i. length-map (tabulate f i) g ∙ (tabulated f).count i;
}
