-- `free_slots::next_free` meets its contract.
-- Assumes nothing.
use mathlib.Core.Path.{◌≡◌, ◌∙◌}
use mathlib.Core.Logic.{◌≢◌}
use Rattle.std.proofs.Common.{rules, tests}
use Rattle.std.proofs.lemmas.Iterator.{first_from_Range}
use Rattle.scope.specs.Lists.{at}
use Rattle.free_slots.proofs.Searching.{find_first}
use Rattle.free_slots.proofs.next_free.Goals as goal

pub returns : goal.returns
returns c =
    let rows = c.args.slot_row.now in
    let behind = c.skip_used-behind.result in
    rw c.unwrap_or.ensures (find_first rows behind _ c.skip_used-behind.ensures.0
    (first_from_Range _ _ _ _ (λ s. at rows s ≡ 0) (λ s. at rows s ≢ 0) c.find.ensures.ran (λ x q k. search (rules, tests)) (λ x q k. search (rules, tests)))
    ∙ c.skip_used-behind.ensures.1)
