-- `validate::tops::raise` meets its contract. The invariant is `Raising`, whole.
-- Assumes nothing.
use native.Mathlib.Omega.{arith}
use Prim.Native.Nat.{◌-◌}
use Rattle.validate.proofs.Raising.{raising_index, raising_more, raising_done}
use Rattle.validate.proofs.tops.raise.Goals as goal

pub put32-requires : goal.put32-requires
put32-requires c =
    let inv = c.loop-p.invariant in
    let pre = c.requires in
    let index = raising_index (c.loop-p.p - 1) c.loop-p.p pre inv (omega arith) c.top_over-top.ensures in
    (omega (arith, inv.left, inv.size, pre.sorted.perm.room), omega (arith, pre.few))

pub loop-p-preserved : goal.loop-p-preserved
loop-p-preserved c =
    let loop = c.loop-p in
    raising_more (loop.p - 1) loop.p c.requires loop.invariant (omega arith) c.top_over-top.ensures c.put32.ensures

pub returns : goal.returns
returns c = raising_done c.requires c.loop-p.invariant c.loop-p-test.false
