-- What `RowsBelow` leaves open: nothing.
--     rows_below_one     two numbers of rows below one bound are equal
-- Assumes nothing.
use Prim.Native.Nat.{ℕ, ◌<◌, ◌≤◌}
use mathlib.Core.Path.{◌≡◌}
use mathlib.Core.List.{List}
use mathlib.Core.Logic.{⊎_elim}
use native.Mathlib.Omega.{arith}
use lib.ListN.{length}
use Rattle.scope.specs.Lists.{at}
use Rattle.scope.proofs.Tests.{le_or_lt}
use Rattle.row_search.specs.Search.{RowsBelow}

-- the row after those of one number would be below the bound and not below it
no_more : {es : List ℕ} {bound r s : ℕ} → RowsBelow es bound r → RowsBelow es bound s → s ≤ r
no_more {es} {bound} {r} {s} p q =
    ⊎_elim
    (λ (h : s ≤ r). h)
    (λ (h : r < s).
    let inside : r < length es = let w = q.within in omega arith in
    let under : at es r < bound = q.below r h in
    let over : bound ≤ at es r = p.above r (omega arith) inside in
    omega arith)
    (le_or_lt s r)

pub rows_below_one : {es : List ℕ} {bound r s : ℕ} → RowsBelow es bound r → RowsBelow es bound s → r ≡ s
rows_below_one p q =
    let a = no_more p q in
    let b = no_more q p in
    omega arith
