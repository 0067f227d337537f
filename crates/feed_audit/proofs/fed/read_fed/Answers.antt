-- `feed_audit::fed::read_fed` meets its contract. Opened and fed, and read out: what is read of the memory to be read is read of the memory.
-- Assumes nothing.
use Rattle.lent.proofs.Same.{state_is}
use Rattle.feed_audit.proofs.Whole.{fed_read_is}
use Rattle.feed_audit.proofs.fed.read_fed.Goals as goal

pub returns-clause-reads_fed : goal.returns-clause-reads_fed
returns-clause-reads_fed c =
    let same = c.as_state.ensures in
    let read = rw (state_is c.read_out-standing.new.marks same, state_is c.offer_all-counts.new.marks same) at c.read_out-standing.ensures.reads_out in
    fed_read_is _ _ _ _ c.open-opened.ensures.opens c.offered.ensures c.offer_all-counts.ensures.fed.0 read
