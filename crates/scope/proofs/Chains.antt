-- Laws of `Chain`: pairs that join, each next two.
--     chain_mono      more pairs join no less
--     chain_bind      pairs that are joined already join no more
--     chain_map       a map that takes pairs to pairs takes chains to chains
--     chain_value     what the two of each pair have in common, all of a chain have
-- Assumes nothing.
use mathlib.Core.Path.{◌≡◌, refl, sym, ◌∙◌}
use Prim.Native.Nat.{ℕ}
use Rattle.scope.specs.Standing.{Chain, alone, pair, back, joined}

pub chain_bind : {E F : ℕ → ℕ → Type 0} {a b : ℕ} → ((x y : ℕ) → E x y → Chain F x y) → Chain E a b → Chain F a b
chain_bind h alone = alone
chain_bind h (pair {x = x} {y = y} e) = h x y e
chain_bind h (back p) = back (chain_bind h p)
chain_bind h (joined p q) = joined (chain_bind h p) (chain_bind h q)

pub chain_mono : {E F : ℕ → ℕ → Type 0} {a b : ℕ} → ((x y : ℕ) → E x y → F x y) → Chain E a b → Chain F a b
chain_mono h p = chain_bind (λ x y e. pair (h x y e)) p

pub chain_map : {E F : ℕ → ℕ → Type 0} (f : ℕ → ℕ) → ((x y : ℕ) → E x y → F (f x) (f y)) → {a b : ℕ} → Chain E a b → Chain F (f a) (f b)
chain_map f h alone = alone
chain_map f h (pair {x = x} {y = y} e) = pair (h x y e)
chain_map f h (back p) = back (chain_map f h p)
chain_map f h (joined p q) = joined (chain_map f h p) (chain_map f h q)

pub chain_value : {E : ℕ → ℕ → Type 0} (f : ℕ → ℕ) → ((x y : ℕ) → E x y → f x ≡ f y) → {a b : ℕ} → Chain E a b → f a ≡ f b
chain_value f h alone = refl
chain_value f h (pair {x = x} {y = y} e) = h x y e
chain_value f h (back p) = sym (chain_value f h p)
chain_value f h (joined p q) = chain_value f h p ∙ chain_value f h q
