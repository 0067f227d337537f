-- `validate::parts::clashes_in_parts` meets its contract. The invariant is `Parting`, of the parts so far.
-- Assumes nothing.
use Rattle.validate.proofs.Joining.{parting_start, parting_part, parting_more}
use Rattle.validate.proofs.parts.clashes_in_parts.Goals as goal

pub loop-k-init : goal.loop-k-init
loop-k-init c = rw (c.into_iter-k-iterator.ensures.into_iter_gives, c.enumerate-k-items.ensures.source)
    (parting_start c.chunks.ensures.size c.enumerate-k-items.ensures.count c.chunks.ensures.rest)

pub against_part-found-requires : goal.against_part-found-requires
against_part-found-requires c = let s = c.in-Some.ensures.steps in parting_part _ _ c.loop-k.invariant s.0.1.0 s.0.1.1 s.0.1.2 c.requires s.1

pub loop-k-preserved : goal.loop-k-preserved
loop-k-preserved c = let s = c.in-Some.ensures.steps in
    parting_more _ _ c.loop-k.invariant s.0.1.0 s.0.1.1 s.0.1.2 s.1 s.2 s.0.0 c.against_part-found.ensures c.lower-second.ensures c.lower-nested.ensures
