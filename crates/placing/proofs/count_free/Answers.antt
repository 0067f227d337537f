-- `placing::count_free` meets its contract.
-- Assumes nothing.
use mathlib.Core.Path.{◌∙◌, sym}
use mathlib.Core.Bool.{cond}
use lib.Dec.{eqb}
use Rattle.std.proofs.Common.{rules, tests}
use native.Mathlib.Omega.{arith}
use Rattle.std.proofs.lemmas.Iterator.{YieldsList-from_slice, YieldsList-from_map}
use Rattle.std.proofs.lemmas.Iterator.Consumers.{sum_by_from_yields_List, fits_by_from_yields_list}
use Rattle.std.proofs.lemmas.List.Sums.{length-filter, count_by-le-length}
use Rattle.placing.proofs.FreeSlots.{filter_free}
use Rattle.placing.proofs.count_free.Goals as goal

pub sum-requires-clause-fits : goal.sum-requires-clause-fits
sum-requires-clause-fits c =
    let l = c.args.slot_row.now in
    fits_by_from_yields_list (λ x. cond (eqb x 0) 1 0) l _ _
    (YieldsList-from_map _ (λ x. cond (eqb x 0) 1 0) (YieldsList-from_slice l cc) c.map.ensures.closure (λ x r q k. search (rules, tests)))
    (omega (arith, count_by-le-length (λ x. eqb x 0) l))

pub returns : goal.returns
returns c =
    let l = c.args.slot_row.now in
    sum_by_from_yields_List (λ x. cond (eqb x 0) 1 0) l _ _ c.sum.ensures.ran
    (YieldsList-from_map _ (λ x. cond (eqb x 0) 1 0) (YieldsList-from_slice l cc) c.map.ensures.closure (λ x r q k. search (rules, tests)))
    ∙ sym (length-filter (λ x. eqb x 0) l)
    ∙ filter_free l
