-- `audit::feed::offer_all` meets its contract. The cells before the i-th are offered and counted.
-- Assumes nothing.
use native.Mathlib.Omega.{arith}
use Rattle.std.proofs.Common.{rules}
use Rattle.lent.proofs.Same.{memory_refl, marks_refl, memory_on, marks_on}
use Rattle.audit.proofs.Feeding.{feed_start, feed_next, feed_end, feed_low, feed_most}
use Rattle.audit.proofs.feed.offer_all.Goals as goal

pub loop-cell-init : goal.loop-cell-init
loop-cell-init c = (feed_start _ _ _, memory_refl c.args.memory.now, marks_refl c.args.marks.now)

pub offset_bounds-counts-number_of : goal.offset_bounds-counts-number_of
offset_bounds-counts-number_of c = let low = feed_low c.loop-cell.invariant.0 c.loop-cell-test.true c.offer-verdict.ensures.offers c.number_of.ensures in omega (arith, low.0)

pub bounds-counts-number_of : goal.bounds-counts-number_of
bounds-counts-number_of c = (feed_low c.loop-cell.invariant.0 c.loop-cell-test.true c.offer-verdict.ensures.offers c.number_of.ensures).0

pub overflow_add-counts : goal.overflow_add-counts
overflow_add-counts c = let low = feed_low c.loop-cell.invariant.0 c.loop-cell-test.true c.offer-verdict.ensures.offers c.number_of.ensures in search rules

pub bounds-counts-number_of-in-loop-cell : goal.bounds-counts-number_of-in-loop-cell
bounds-counts-number_of-in-loop-cell c = (feed_low c.loop-cell.invariant.0 c.loop-cell-test.true c.offer-verdict.ensures.offers c.number_of.ensures).0

pub loop-cell-preserved : goal.loop-cell-preserved
loop-cell-preserved c =
    let inv = c.loop-cell.invariant in
    let offers = c.offer-verdict.ensures in
    (feed_next inv.0 c.loop-cell-test.true offers.offers c.number_of.ensures, memory_on inv.1 offers.same_memory, marks_on inv.2 offers.same_marks)

pub returns-clause-fed : goal.returns-clause-fed
returns-clause-fed c = (feed_end c.loop-cell.invariant.0 c.loop-cell-test.false, feed_most c.loop-cell.invariant.0)
