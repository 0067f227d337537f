-- Dissolve's promise determines its answer and every lent slice: any two outcomes that it allows are equal. `standing` has the same of the
-- other calls.
--     dissolve_determined
-- Assumes nothing.
use mathlib.Core.Path.{◌≡◌}
use mathlib.Core.List.{List}
use Prim.Native.Nat.{ℕ}
use Rattle.scope.specs.Answers.{Answer}
use Rattle.scope.specs.Table.{Table}
use Rattle.scope.specs.Memory.{Memory, Output}
use Rattle.scope.specs.Calls.{dissolving}
use Rattle.standing.proofs.Determined.{readings}
use Rattle.solvent.specs.Promises.{Dissolves}

pub dissolve_determined : (t : Table) (m : Memory) (mode : ℕ) (cs : List ℕ) (o : Output) {r r' : Answer} {m' m'' : Memory} {o' o'' : Output}
    → Dissolves t m mode cs o r m' o' → Dissolves t m mode cs o r' m'' o'' → (r ≡ r') × (m' ≡ m'') × (o' ≡ o'')
dissolve_determined t m mode cs o = readings (dissolving t m mode cs o)
