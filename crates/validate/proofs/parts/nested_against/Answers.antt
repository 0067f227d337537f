-- `validate::parts::nested_against` meets its contract.
-- Assumes nothing.
use mathlib.Core.Path.{◌≡◌, ◌∙◌, sym}
use mathlib.Core.Bool.{true, not}
use Rattle.std.proofs.Common.{rules, tests}
use Rattle.std.proofs.lemmas.Grind.{get_or_default_zero}
use Rattle.std.proofs.lemmas.Iterator.{YieldsList-from_slice}
use Rattle.std.proofs.lemmas.Iterator.Adapters.{serves_from_places}
use Rattle.std.proofs.lemmas.Iterator.Search.{position_from_yields_List}
use Rattle.scope.specs.Lists.{at}
use Rattle.scope.specs.Cells.{valid_cell}
use Rattle.cell_lookup.specs.Lookup.{clear_of, LookedOver}
use Rattle.validate.proofs.Lowest.{position_lowest}
use Rattle.validate.proofs.parts.nested_against.Goals as goal

pub position-requires-clause-callable : goal.position-requires-clause-callable
position-requires-clause-callable c =
    let cs = c.args.cells.now in
    serves_from_places (YieldsList-from_slice cs cc) (λ x q k. search rules) (λ x k h e.
    let here : at cs k ≡ x.now = sym (e ∙ get_or_default_zero cs k x.now h) in
    let valid : valid_cell x.now ≡ true = rw here at (c.requires.valid k h) in
    let asks : LookedOver c.args.part.now c.args.raised.now x.now = record { raised = c.requires.raised; valid = valid } in
    search rules)

pub returns : goal.returns
returns c =
    let part = c.args.part.now in
    let cs = c.args.cells.now in
    position_from_yields_List (λ x. not (clear_of part x)) _ _ _ c.position.ensures.ran (YieldsList-from_slice cs cc) (λ x b q k. search (rules, tests))
    ∙ position_lowest (clear_of part) cs
