-- `edge_table::straight::none_bad` meets its contract.
-- Assumes nothing.
use Prim.Native.Nat.{ℕ}
use mathlib.Core.Path.{sym, ◌∙◌, ap}
use lib.ListN.{length}
use Rattle.scope.specs.Lists.{passes}
use Rattle.edge_table.specs.Straight.{fields_kept}
use Rattle.edge_table.proofs.Columns.{none_bad}
use Rattle.edge_table.proofs.straight.none_bad.Goals as goal

pub returns : goal.returns
returns c = λ e.
    let es = c.args.edges.now in
    none_bad _ (c.columns_kept.ensures (c.if-not-columns_kept.false))
    (ap (λ (r : ℕ). passes (fields_kept r es) (length es)) (sym c.resolution-target.ensures) ∙ c.fields_kept.ensures (c.if-not-fields_kept.false))
    (c.sides_kept.ensures e)
