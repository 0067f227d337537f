-- The loop of `cell_text::read_lines`.
use Prim.Native.Nat.{min}
use lib.ListN.{length}
use Rattle.cell_text.proofs.LinesLeft.{left}
use Rattle.cell_text.proofs.Come.{Come}
use Rattle.cell_text.proofs.read_lines.Given as goal

abbrev pub invariant-loop-line : goal.invariant-loop-line
invariant-loop-line l = Come l.text l.initial.cells l.initial.numbers (min (length l.initial.cells) (length l.initial.numbers)) l.cells l.numbers (left l.line-iterator.rest.now l.line-iterator.done) l.number l.count
