-- `pair_links::merge_arcs` meets its contract: its three steps in a row (Closing).
-- Assumes nothing.
use Rattle.pair_links.proofs.Closing.{swapped_closed, dropped_closed, pair_all}
use Rattle.pair_links.proofs.merge_arcs.Goals as goal

pub unlink-requires : goal.unlink-requires
unlink-requires c =
    let a = c.args in let p = c.requires in swapped_closed a.next.now a.prev.now _ _ a.x a.y p.0 p.1 p.2 c.swap_next.ensures.0 c.swap_next.ensures.1

pub unlink-requires-2 : goal.unlink-requires-2
unlink-requires-2 c =
    let a = c.args in let p = c.requires in dropped_closed a.next.now a.prev.now _ _ a.x a.y p.0 p.1 p.2 c.swap_next.ensures.0 c.swap_next.ensures.1 _ _ c.unlink.ensures.0 c.unlink.ensures.1

pub returns : goal.returns
returns c =
    let a = c.args in let p = c.requires in pair_all a.next.now a.prev.now _ _ a.x a.y p.0 p.1 p.2 c.swap_next.ensures.0 c.swap_next.ensures.1 _ _ c.unlink.ensures.0 c.unlink.ensures.1 _ _ c.unlink-2.ensures.0 c.unlink-2.ensures.1
