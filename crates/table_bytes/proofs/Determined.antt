-- What the promise of `read_table` allows is one outcome: the answer and every slice.
-- Assumes nothing.
use Prim.Native.Nat.{ℕ}
use mathlib.Core.Path.{◌≡◌, sym, ◌∙◌}
use mathlib.Core.List.{List}
use Rattle.std.specs.Prelude.{Result}
use Rattle.scope.specs.Table.{Table}
use Rattle.table_bytes.specs.declared.TableFault.{TableFault}
use Rattle.table_bytes.specs.Files.{TableRead}

pub table_one : {b : List ℕ} {t t' t'' : Table} {r r' : Result ℕ TableFault} → TableRead b t r t' → TableRead b t r' t'' → (r ≡ r') × (t' ≡ t'')
table_one A B = (A.answer ∙ sym B.answer, A.left ∙ sym B.left)
