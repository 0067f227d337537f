-- `wire::output::edge_count` meets its contract: the rings before place i are counted. Assumes nothing.
use mathlib.Core.Path.{refl, ◌∙◌, ap}
use Prim.Native.Nat.{◌+◌}
use native.Mathlib.Omega.{arith}
use lib.Seq.{get_or-take, length-take-le}
use Rattle.scope.specs.Lists.{at, total}
use Rattle.wire.proofs.Showing.{total_next, total_upto}
use Rattle.wire.proofs.output.edge_count.Goals as goal

pub loop-size-init : goal.loop-size-init
unfolding total
loop-size-init c = refl

pub overflow_add-edges : goal.overflow_add-edges
overflow_add-edges c =
    let l = c.args.output.now.size.now in let f = at l in let i = c.loop-size.size-index in let n = c.args.rings in
    let few = c.requires.few in let k = length-take-le n l c.requires.within in let e = c.loop-size.invariant in
    let read = get_or-take n l i 0 (omega arith) in
    omega (arith, total_next f i, total_upto f (i + 1) n (omega arith))

pub loop-size-preserved : goal.loop-size-preserved
loop-size-preserved c =
    let l = c.args.output.now.size.now in let i = c.loop-size.size-index in let n = c.args.rings in
    let k = length-take-le n l c.requires.within in let e = c.loop-size.invariant in
    let read = get_or-take n l i 0 (omega arith) in
    omega (arith, total_next (at l) i)

pub returns : goal.returns
returns c =
    let l = c.args.output.now.size.now in let k = length-take-le c.args.rings l c.requires.within in
    c.loop-size.invariant ∙ ap (total (at l)) (omega arith)
