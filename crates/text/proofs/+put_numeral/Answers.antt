-- `text::put_numeral` meets its contract: the digits before the last one are those of the number without it.
-- Assumes nothing.
use native.Mathlib.Omega.{arith}
use Rattle.text.proofs.Writing.{wrote_more}
use Rattle.text.proofs.Numerals.{shrinks, numeral_short, numeral_long}
use Rattle.text.proofs.+put_numeral.Goals as goal

pub returns-then-n-base : goal.returns-then-n-base
returns-then-n-base t c = rw (numeral_short c.args.base c.requires.1 c.args.least c.args.n c.if-n-base.true, ← c.glyph.ensures) c.put.ensures

pub put_numeral-last-requires : goal.put_numeral-last-requires
put_numeral-last-requires t c = (omega (arith, c.saturating_sub.ensures, shrinks c.args.base c.args.least c.args.n c.requires.1 c.if-n-base.false), c.requires)

pub returns : goal.returns
returns t c = rw (numeral_long c.args.base c.requires.1 c.args.least c.args.n c.if-n-base.false, ← c.saturating_sub.ensures, ← c.glyph-2.ensures)
    (wrote_more c.put_numeral-last.ensures c.put-2.ensures)
