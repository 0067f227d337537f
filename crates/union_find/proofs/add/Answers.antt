-- `union_find::add` meets its contract, by `added_keeps`.
-- Assumes nothing.
use native.Mathlib.Numerals.{add-one}
use Rattle.scope.proofs.Unions.{added_keeps}
use Rattle.union_find.proofs.add.Goals as goal

pub returns : goal.returns
returns c =
    let p = c.requires in
    let e = c.put32.ensures in
    let f = c.put32-2.ensures in
    record { parents = e; ranks = f; keeps = rw (e, f, add-one) (added_keeps _ _ _ p.forest p.room) }
