-- `ring_list::agreed::read_out_agreed` meets its contract: refused before the core, or the core's.
-- Assumes nothing.
use Rattle.ring_list.proofs.Listings.{read_refused, read_agreed}
use Rattle.ring_list.proofs.agreed.read_out_agreed.Goals as goal

pub returns-then-records-output-clause-reads_out : goal.returns-then-records-output-clause-reads_out
returns-then-records-output-clause-reads_out c = read_refused _ _ _ c.args.records c.if-records-output.true

pub returns-clause-reads_out : goal.returns-clause-reads_out
returns-clause-reads_out c = read_agreed _ _ _ c.args.records _ c.if-records-output.false c.read_out.ensures.reads_out
