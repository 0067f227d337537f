-- The loop of `text::put_shown`.
use Rattle.text.specs.Text.{shown}
use Rattle.text.proofs.Writing.{Writes}
use Rattle.text.proofs.put_shown.Given as goal

abbrev pub invariant-loop-b : goal.invariant-loop-b
invariant-loop-b l = Writes (shown l.name) l.initial.out l.at l.out l.place l.b-index
