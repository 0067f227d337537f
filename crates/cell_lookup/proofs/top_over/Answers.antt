-- `top_over` meets its contract.
-- Assumes nothing.
use borrow.Author.Tests.{lt-ltb, le-ltb}
use Rattle.cell_lookup.specs.Lookup.{top_over}
use Rattle.cell_lookup.proofs.top_over.Goals as goal

pub returns-then-part-top : goal.returns-then-part-top
unfolding top_over
returns-then-part-top c = rw (le-ltb _ _ c.if-part-top.true) c.get32-j.ensures.0

pub returns-then-lies_under : goal.returns-then-lies_under
unfolding top_over
returns-then-lies_under c = rw (← c.get32-j.ensures.0, lt-ltb _ _ c.if-part-top.false, ← c.lies_under.ensures, c.if-lies_under.true)

pub returns : goal.returns
unfolding top_over
returns c = rw (← c.get32-j.ensures.0, lt-ltb _ _ c.if-part-top.false, ← c.lies_under.ensures, c.if-lies_under.false)
