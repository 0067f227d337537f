-- What the promise of the local arrays tells hides nothing of them.
-- Assumes nothing.
use mathlib.Core.Path.{◌≡◌, ap}
use Rattle.scope.specs.Table.{Table}
use Rattle.byte_limits.specs.declared.arrays.TableArrays.{TableArrays}
use Rattle.byte_limits.specs.Arrays.{rows_of}

pub rows_one : {a b : TableArrays} → rows_of a ≡ rows_of b → a ≡ b
rows_one e = λ i. record {
  edges = ap (λ (t : Table). t.edges) e i;
  reverse = ap (λ (t : Table). t.reverse) e i;
  area = ap (λ (t : Table). t.area) e i;
}
