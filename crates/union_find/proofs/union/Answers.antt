-- `union_find::union` meets its contract: two finds, a test for one root, and the two ways to hang a root (Steps).
-- Assumes nothing.
use native.Mathlib.Omega.{arith}
use Rattle.union_find.proofs.Steps.{joined_same, joined_lower, joined_upper, hang_asks}
use Rattle.union_find.proofs.union.Goals as goal

pub returns-then-root_a-root_b : goal.returns-then-root_a-root_b
returns-then-root_a-root_b c =
    joined_same _ _ _ _ _ _ _ _ _ c.find-root_a.ensures c.find-root_b.ensures c.if-root_a-root_b.true

pub hang-requires : goal.hang-requires
hang-requires c =
    let p = c.requires in
    hang_asks _ _ _ c.find-root_b.ensures.keeps _ _ _ c.find-root_a.ensures.held c.find-root_b.ensures.held c.find-root_b.ensures.top c.get32-rank_b.ensures.0 p.fits

pub hang-requires-else-rank_a-rank_b : goal.hang-requires-else-rank_a-rank_b
hang-requires-else-rank_a-rank_b c =
    let p = c.requires in
    hang_asks _ _ _ c.find-root_b.ensures.keeps _ _ _ c.find-root_b.ensures.held c.find-root_a.ensures.held (c.find-root_b.ensures.roots _ c.find-root_a.ensures.top) c.get32-rank_a.ensures.0 p.fits

pub returns-then-rank_a-rank_b : goal.returns-then-rank_a-rank_b
returns-then-rank_a-rank_b c =
    joined_lower _ _ _ _ _ _ _ _ _ c.find-root_a.ensures c.find-root_b.ensures _ _ c.if-root_a-root_b.false
    (omega (arith, c.if-rank_a-rank_b.true, c.get32-rank_b.ensures.0, c.get32-rank_a.ensures.0)) c.hang.ensures

pub returns-else-rank_a-rank_b : goal.returns-else-rank_a-rank_b
returns-else-rank_a-rank_b c =
    joined_upper _ _ _ _ _ _ _ _ _ c.find-root_a.ensures c.find-root_b.ensures _ _ c.if-root_a-root_b.false
    (omega (arith, c.if-rank_a-rank_b.false, c.get32-rank_b.ensures.0, c.get32-rank_a.ensures.0)) c.hang-else-rank_a-rank_b.ensures
