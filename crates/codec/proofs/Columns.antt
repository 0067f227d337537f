-- Loops that fill a slice from the front with a column of values, one store a turn.
--     Filled, filled_none, filled_next, filled_all     the loop's invariant and its moves
-- Assumes nothing.
use mathlib.Core.Path.{◌≡◌, refl, sym, ◌∙◌, ap}
use mathlib.Core.List.{List, [], ◌∷◌, ◌++◌, append-nil}
use Prim.Native.Nat.{ℕ, suc, ◌+◌, ◌≤◌, ◌<◌}
use native.Mathlib.Numerals.{add-one}
use native.Mathlib.Omega.{arith}
use lib.ListN.{length, get_or, set, drop, length-set, drop_of_length-le}
use lib.Seq.{drop-cons, set_at, append_snoc}
use Rattle.codec.specs.Columns.{Grows}

pub record Filled {A : Type 0} (column : ℕ → List A) (xs₀ xs : List A) (i : ℕ) : Type 0 where
  pub within : i ≤ length xs₀
  pub front : xs ≡ column i ++ drop i xs₀
  pub len : length xs ≡ length xs₀

module _ {A : Type 0} {column : ℕ → List A} {f : ℕ → A} (G : Grows column f) where
  pub filled_none : (xs : List A) → Filled column xs xs 0
  filled_none xs = record { within = omega arith; front = sym (ap (λ (l : List A). l ++ xs) G.none); len = refl }

  pub filled_next : {xs₀ xs : List A} {i : ℕ} → Filled column xs₀ xs i → i < length xs → (v : A) → v ≡ f i → Filled column xs₀ (set xs i v) (i + 1)
  filled_next {xs₀} {xs} {i} F h v e =
      let n = F.len in
      record {
        within = omega arith;
        front = ap (λ (l : List A). set l i v) (F.front ∙ ap (λ (l : List A). column i ++ l) (drop-cons xs₀ i v (omega arith)))
            ∙ set_at (column i) (get_or xs₀ i v) (drop (suc i) xs₀) v i (G.count i)
            ∙ sym (append_snoc (column i) v (drop (suc i) xs₀))
            ∙ ap (λ (l : List A). l ++ drop (suc i) xs₀) (ap (λ (x : A). column i ++ (x ∷ [])) e ∙ sym (G.more i))
            ∙ ap (λ (k : ℕ). column (i + 1) ++ drop k xs₀) (sym (add-one i));
        len = length-set xs i v ∙ n;
      }

  pub filled_all : {xs₀ xs : List A} {i : ℕ} → Filled column xs₀ xs i → length xs ≤ i → xs ≡ column (length xs₀)
  filled_all {xs₀} {xs} {i} F h =
      let n = F.len in let w = F.within in
      F.front ∙ ap (λ (l : List A). column i ++ l) (drop_of_length-le xs₀ (let z : length xs₀ ≤ i = omega arith in z)) ∙ append-nil (column i)
      ∙ ap column (let z : i ≡ length xs₀ = omega arith in z)
