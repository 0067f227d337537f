-- `read_digits` meets its contract. Where the digits run to the end, each byte is one.
-- Assumes nothing.
use borrow.Author.Tests.{eqb-true}
use Rattle.scope.proofs.Tests.{and_left}
use Rattle.cell_words.proofs.Digits.{all_digits}
use Rattle.cell_words.proofs.read_digits.Goals as goal

pub number_in-requires-clause-all : goal.number_in-requires-clause-all
number_in-requires-clause-all c = all_digits _ c.digits_before-n.ensures.count (eqb-true _ _ (and_left _ _ (and_left _ _ c.if-n-digits.true)))
