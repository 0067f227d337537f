-- `ring_list::agreed::dissolve_agreed` meets its contract: refused before the core, or the core's.
-- Assumes nothing.
use Rattle.ring_list.proofs.Listings.{dissolve_refused, dissolve_agreed}
use Rattle.ring_list.proofs.agreed.dissolve_agreed.Goals as goal

pub returns-then-records-output-clause-dissolves : goal.returns-then-records-output-clause-dissolves
returns-then-records-output-clause-dissolves c = dissolve_refused _ _ c.args.mode c.args.list.now _ c.args.records c.if-records-output.true

pub returns-clause-dissolves : goal.returns-clause-dissolves
returns-clause-dissolves c = dissolve_agreed _ _ c.args.mode c.args.list.now _ c.args.records _ c.if-records-output.false c.dissolve.ensures.dissolves
