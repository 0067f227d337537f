-- A change, and the state back into its bytes, is what the call on bytes leaves.
-- Assumes nothing.
use Prim.Native.Nat.{ℕ}
use mathlib.Core.Path.{◌≡◌, ◌∙◌, ap}
use mathlib.Core.List.{List, []}
use Rattle.scope.specs.Answers.{Verdict, if_accepted}
use Rattle.scope.specs.Table.{Table}
use Rattle.scope.specs.Memory.{Memory}
use Rattle.scope.specs.Calls.{Outcome}
use Rattle.scope.specs.Bytes.{state_bytes, result_of, storing}

pub stored : (change : Table → Memory → Outcome) (state : List ℕ) {t t' : Table} {m m' left : Memory} {v : Verdict} {result : ℕ} {state' : List ℕ}
    → t ≡ t' → m ≡ m' → record { answer = v; left = left } ≡ change t m → result ≡ result_of v → state' ≡ if_accepted v (state_bytes left) state
    → record { result = result; state = state'; out = [] } ≡ storing (change t' m') state []
unfolding storing
stored change state p q made e f = rw (e, f, ← p, ← q) (ap (λ (o : Outcome). storing o state []) made)
