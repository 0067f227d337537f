-- `edge_table::straight::sides_kept` meets its contract.
-- Assumes nothing.
use Prim.Native.Nat.{ℕ, ◌+◌, ◌*◌}
use mathlib.Core.Path.{refl}
use borrow.Author.Tests.{not-true}
use Rattle.std.proofs.Common.{rules}
use Rattle.std.proofs.lemmas.Iterator.{YieldsList-from_range, cases_from_any}
use Rattle.scope.proofs.Iterated.{none_range}
use Rattle.edge_table.specs.Straight.{NoSide}
use Rattle.edge_table.proofs.Sides.{sides_done}
use Rattle.edge_table.proofs.straight.sides_kept.Goals as goal

pub returns : goal.returns
returns c =
    let a = c.args in
    let none = λ (base : ℕ). NoSide a.edges.now ((272 + a.target) * 128 + base) in
    let found = cases_from_any _ _ c.any.result (λ _. Unit {0}) none c.any.ensures.ran (YieldsList-from_range 0 122 122 refl refl) (λ x q k. tt) (λ x q k. search rules) in
    λ e. sides_done c.requires (none_range _ none 122 c.any.result found (not-true _ e))
