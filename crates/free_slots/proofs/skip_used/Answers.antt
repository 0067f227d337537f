-- `free_slots::skip_used` meets its contract. The invariant is `Skipping`, whole.
-- Assumes nothing.
use mathlib.Core.Path.{◌∙◌, sym}
use Rattle.free_slots.proofs.Searching.{skip_start, skip_more}
use Rattle.free_slots.proofs.skip_used.Goals as goal

pub loop-eight-init : goal.loop-eight-init
loop-eight-init c = rw c.into_iter-eight-iterator.ensures.into_iter_gives (skip_start c.requires c.chunks_exact-eight-items.ensures.size c.chunks_exact-eight-items.ensures.rest)

pub loop-eight-preserved : goal.loop-eight-preserved
loop-eight-preserved c =
    let s = c.in-Some.ensures.steps in
    skip_more _ _ c.loop-eight.invariant s.1.0 s.1.1 (sym c.all_used.ensures ∙ c.if-not-all_used.false) s.0
