-- `free_slots::all_used` meets its contract.
-- Assumes nothing.
use mathlib.Core.Path.{◌≡◌, refl, sym, ◌∙◌, ap}
use mathlib.Core.Bool.{Bool, ◌&&◌, not}
use lib.Dec.{eqb}
use Rattle.std.specs.List.{list_all}
use Rattle.std.proofs.Common.{rules, tests}
use Rattle.std.proofs.lemmas.Fn.{fold_over, fronts}
use Rattle.std.proofs.lemmas.Iterator.{YieldsList-from_slice}
use Rattle.free_slots.proofs.Searching.{all_more}
use Rattle.free_slots.proofs.all_used.Goals as goal

pub returns : goal.returns
returns c =
    let xs = c.args.slots.now in
    fold_over fronts (λ y. y.now) _ (λ ys a. a ≡ list_all (λ x. not (eqb x 0)) ys) _ (λ ys a x b q h k.
    let e : b ≡ (a && not (eqb x.now 0)) = search (rules, tests) in
    (e ∙ ap (λ (t : Bool). t && not (eqb x.now 0)) h ∙ sym (all_more (λ x. not (eqb x 0)) ys x.now), search rules))
    c.iter.result xs _ _ (YieldsList-from_slice {s = c.iter.result} xs cc).runs refl c.fold.ensures.ran
