-- A refusal of the calls has a number of at most 10, so that a result fits its 64 bits.
--     open_low, offer_low, read_out_low, dissolve_low     of what a call answered
-- Assumes nothing.
use Prim.Native.Nat.{ℕ, ◌≤◌}
use mathlib.Core.Path.{◌≡◌}
use mathlib.Core.List.{List}
use Rattle.scope.specs.Answers.{Answer, Verdict, refusal_of, verdict_of}
use Rattle.scope.specs.Table.{Table}
use Rattle.scope.specs.Memory.{Memory, Output}
use Rattle.scope.specs.Calls.{opening, offering, reading_out, dissolving}
use Rattle.scope.proofs.Numbered.{number_most, numbered}

module _ (t : Table) (m : Memory) where
  pub open_low : (mode : ℕ) {v : Verdict} {m' : Memory} → record { answer = v; left = m' } ≡ opening t m mode → refusal_of v ≤ 10
  open_low mode {v} e = number_most v (numbered v)

  pub offer_low : (x : ℕ) {v : Verdict} {m' : Memory} → record { answer = v; left = m' } ≡ offering t m x → refusal_of v ≤ 10
  offer_low x {v} e = number_most v (numbered v)

  pub read_out_low : (o : Output) {r : Answer} {m' : Memory} {o' : Output} → record { answer = r; left = m'; out = o' } ≡ reading_out t m o → refusal_of (verdict_of r) ≤ 10
  read_out_low o {r} e = number_most (verdict_of r) (numbered (verdict_of r))

  pub dissolve_low : (mode : ℕ) (cs : List ℕ) (o : Output) {r : Answer} {m' : Memory} {o' : Output} → record { answer = r; left = m'; out = o' } ≡ dissolving t m mode cs o
      → refusal_of (verdict_of r) ≤ 10
  dissolve_low mode cs o {r} e = number_most (verdict_of r) (numbered (verdict_of r))
