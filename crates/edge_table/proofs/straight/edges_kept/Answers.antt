-- `edge_table::straight::edges_kept` meets its contract.
-- Assumes nothing.
use native.Mathlib.Omega.{arith}
use Prim.Native.Nat.{◌<◌}
use lib.Dec.{eqb}
use lib.ListN.{length}
use borrow.Author.Tests.{eqb-true, leb-true}
use Rattle.scope.specs.Lists.{at}
use Rattle.scope.proofs.Tests.{and_left, and_right}
use Rattle.edge_table.specs.Straight.{sevens}
use Rattle.edge_table.proofs.Gathered.{showing_start, showing_more, showing_done, sevens_start, sevens_more, rising_start, rising_more, rising_done}
use Rattle.edge_table.proofs.straight.edges_kept.Goals as goal

pub loop-i-init : goal.loop-i-init
loop-i-init c =
    let a = c.args in
    let es = a.edges.now in
    (omega arith, showing_start c.requires (λ e. sevens_start (sevens (at es 0)) a.wanted c.sevens_off-off.ensures e), showing_start c.requires (λ h. rising_start es (omega arith)))

pub loop-i-preserved : goal.loop-i-preserved
loop-i-preserved c =
    let a = c.args in
    let es = a.edges.now in
    let l = c.loop-i in
    let taken : l.i < length es = omega arith in
    (omega arith, showing_more l.invariant.1 taken (λ e. sevens_more l.off (sevens (at es l.i)) a.wanted c.sevens_off-off-in-loop-i.ensures e), rising_more es l.invariant.2 l.invariant.0 taken c.difference.ensures (λ h. omega arith))

pub returns : goal.returns
returns c = λ e.
    let l = c.loop-i in
    let clear = eqb l.off 0 in
    record {
      digits = showing_done l.invariant.1 (omega arith) (eqb-true _ _ (and_left clear _ e));
      order = rising_done _ l.invariant.2 (omega arith) (leb-true _ _ (and_right clear _ e));
    }
