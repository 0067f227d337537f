-- What a call of each number is: a change, a read out, or refusal 10.
-- Assumes nothing.
use Prim.Native.Nat.{ℕ}
use mathlib.Core.Path.{◌≡◌, sym, ◌∙◌, ap}
use mathlib.Core.List.{List, []}
use borrow.Author.Tests.{ne_eqb}
use Rattle.std.specs.Prelude.{Err}
use Rattle.scope.specs.declared.Refusal.TheVariants.{BadLengths}
use Rattle.scope.specs.Table.{Table, row_count}
use Rattle.scope.specs.Memory.{Memory}
use Rattle.scope.specs.Calls.{reading_out}
use Rattle.scope.specs.Bytes.{Left, result_of, cleared_output, storing, showing, calling}
use Rattle.byte_change.specs.declared.Change.TheVariants.{Open, Offer}
use Rattle.byte_change.specs.Changing.{changing}

module _ (t : Table) (m : Memory) (call value : ℕ) (state out : List ℕ) {result : ℕ} where
  pub calls_open : {state' : List ℕ} → call ≡ 0 → record { result = result; state = state'; out = [] } ≡ storing (changing t m (Open value)) state []
      → record { result = result; state = state'; out = out } ≡ calling t m state out call value
  unfolding storing calling changing
  calls_open h e = ap (λ (l : Left). record { result = l.result; state = l.state; out = out }) e ∙ ap (λ (k : ℕ). calling t m state out k value) (sym h)

  pub calls_offer : {state' : List ℕ} → call ≡ 1 → record { result = result; state = state'; out = [] } ≡ storing (changing t m (Offer value)) state []
      → record { result = result; state = state'; out = out } ≡ calling t m state out call value
  unfolding storing calling changing
  calls_offer h e = ap (λ (l : Left). record { result = l.result; state = l.state; out = out }) e ∙ ap (λ (k : ℕ). calling t m state out k value) (sym h)

  pub calls_read : {out' : List ℕ} → call ≡ 2 → record { result = result; state = []; out = out' } ≡ showing (reading_out t m (cleared_output (row_count t))) [] out
      → record { result = result; state = state; out = out' } ≡ calling t m state out call value
  unfolding showing calling
  calls_read h e = ap (λ (l : Left). record { result = l.result; state = state; out = l.out }) e ∙ ap (λ (k : ℕ). calling t m state out k value) (sym h)

  pub calls_none : (call ≡ 0 → ⊥) → (call ≡ 1 → ⊥) → (call ≡ 2 → ⊥) → result ≡ result_of (Err BadLengths)
      → record { result = result; state = state; out = out } ≡ calling t m state out call value
  unfolding calling
  calls_none no_open no_offer no_read e =
      rw (ne_eqb call 0 no_open, ne_eqb call 1 no_offer, ne_eqb call 2 no_read)
      (ap (λ (r : ℕ). record { result = r; state = state; out = out }) e)
