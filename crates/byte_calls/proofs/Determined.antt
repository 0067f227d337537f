-- The promises on bytes determine the result and every byte: any two outcomes that they allow are equal.
--     bytes_dissolve_determined, bytes_call_determined
-- Assumes nothing.
use Prim.Native.Nat.{ℕ}
use mathlib.Core.Path.{◌≡◌, sym, ◌∙◌, ap}
use mathlib.Core.List.{List}
use Rattle.scope.specs.Bytes.{Left}
use Rattle.byte_calls.specs.Promises.{DissolvesBytes, CallsBytes}

pub bytes_dissolve_determined : (table cells out : List ℕ) (mode slots places : ℕ) {r r' : ℕ} {out' out'' : List ℕ}
    → DissolvesBytes table cells out mode slots places r out' → DissolvesBytes table cells out mode slots places r' out'' → (r ≡ r') × (out' ≡ out'')
bytes_dissolve_determined table cells out mode slots places p q = let e = p ∙ sym q in (ap (λ (l : Left). l.result) e, ap (λ (l : Left). l.out) e)

pub bytes_call_determined : (table state out : List ℕ) (slots places call value : ℕ) {r r' : ℕ} {state' state'' out' out'' : List ℕ}
    → CallsBytes table state out slots places call value r state' out' → CallsBytes table state out slots places call value r' state'' out''
    → (r ≡ r') × (state' ≡ state'') × (out' ≡ out'')
bytes_call_determined table state out slots places call value p q =
    let e = p ∙ sym q in
    (ap (λ (l : Left). l.result) e, ap (λ (l : Left). l.state) e, ap (λ (l : Left). l.out) e)
