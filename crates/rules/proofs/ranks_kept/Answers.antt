-- `rules::ranks_kept` meets its contract. The invariant is `Summing`, whole.
-- Assumes nothing.
use native.Mathlib.Omega.{arith}
use mathlib.Core.Path.{◌≡◌}
use Rattle.scope.specs.Rules.{ranks_kept}
use Rattle.rules.proofs.Totals.{summing_start, summing_more}
use Rattle.rules.proofs.ranks_kept.Goals as goal

pub loop-place-init : goal.loop-place-init
loop-place-init c = summing_start

pub loop-place-preserved : goal.loop-place-preserved
loop-place-preserved c = summing_more c.loop-place.invariant c.loop-place-test.true c.at32-ranks.ensures.0 c.at32-ranks.ensures.1 c.root_at-roots.ensures

pub returns : goal.returns
unfolding ranks_kept
returns c =
    let e : c.loop-place.place ≡ c.args.held = omega (arith, c.loop-place.invariant.within) in
    rw (c.loop-place.invariant.ranks_are, c.loop-place.invariant.roots_are, e)
