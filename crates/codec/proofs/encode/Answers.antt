-- `codec::encode` meets its contract: the numbers before place i are written. Assumes nothing.
use mathlib.Core.Path.{◌∙◌, ap}
use Rattle.std.proofs.lemmas.List.{get_or_default}
use Rattle.codec.proofs.Writing.{written_none, written_next}
use Rattle.codec.proofs.encode.Goals as goal

pub loop-i-init : goal.loop-i-init
loop-i-init g c = written_none _ _ _ _

pub loop-i-preserved : goal.loop-i-preserved
loop-i-preserved g c =
    let T = g.T.ToBytes in let h = c.loop-i-test.true in
    let size = c.SIZE.ensures in
    let x = ap T.bytes (c.index-xs-i.is ∙ get_or_default c.args.xs.now c.loop-i.i _ T.zero h) in
    written_next c.loop-i.invariant T.SIZE (λ i. g.met.T.ToBytes.sized _) h _ (cc (c.write.ensures, size, x))
