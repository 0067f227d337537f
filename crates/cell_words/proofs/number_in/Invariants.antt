-- The loop of `cell_words::number_in`.
use Rattle.cell_words.proofs.Numbers.{Reads}
use Rattle.cell_words.proofs.number_in.Given as goal

abbrev pub invariant-loop-b : goal.invariant-loop-b
invariant-loop-b l = Reads l.digits l.number l.b-index
