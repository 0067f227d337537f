-- What the public promises of this crate allow is one outcome each, but for the flags, which are scratch.
--     pairs_one, added_one
-- Assumes nothing.
use mathlib.Core.Path.{◌≡◌, sym, ◌∙◌, ap}
use mathlib.Core.List.{List}
use Prim.Native.Nat.{ℕ}
use native.Mathlib.Omega.{arith}
use lib.ListN.{length}
use Rattle.scope.specs.Table.{Table}
use Rattle.scope.specs.Memory.{Memory}
use Rattle.scope.specs.Pool.{free_slots}
use Rattle.arcs.specs.CancelRows.{RowsCancelled}
use Rattle.arcs.specs.Taking.{Added}

pub pairs_one : {t : Table} {m m' m'' : Memory} {n k k' : ℕ} {o : List ℕ} → RowsCancelled t m n o k m' → RowsCancelled t m n o k' m'' → (k ≡ k') × (m' ≡ m'')
pairs_one C D = (C.count ∙ sym D.count, C.left ∙ sym D.left)

pub added_one : {t : Table} {m m' m'' : Memory} {x k k' : ℕ} {f f' : List ℕ} → Added t m x k m' f → Added t m x k' m'' f' → (k ≡ k') × (m' ≡ m'')
added_one C D =
    let same = C.left ∙ sym D.left in
    let f = C.free in
    let g = D.free in
    let e = ap (λ (w : Memory). length (free_slots w)) same in
    (omega arith, same)
