-- `validate::parts::second_against` meets its contract.
-- Assumes nothing.
use mathlib.Core.Bool.{true, false}
use mathlib.Core.Path.{◌≡◌}
use Rattle.std.proofs.Common.{rules, tests}
use Rattle.std.proofs.lemmas.Iterator.{first_from_Range}
use Rattle.validate.specs.Parts.{new_against}
use Rattle.validate.proofs.Lowest.{find_lowest}
use Rattle.validate.proofs.Joining.{from_part}
use Rattle.validate.proofs.parts.second_against.Goals as goal

pub returns : goal.returns
returns c =
    let part = c.args.part.now in
    let cs = c.args.cells.now in
    let start = c.args.start in
    find_lowest _ _ start _ (from_part part cs start c.requires.within)
    (first_from_Range _ _ _ _ (λ i. new_against part cs start i ≡ false) (λ i. new_against part cs start i ≡ true) c.find.ensures.ran (λ x q k. search (rules, tests)) (λ x q k. search (rules, tests)))
