-- `gosper::turn` meets its contract.
-- Assumes nothing.
use mathlib.Core.Path.{◌≡◌}
use native.Mathlib.Omega.{arith}
use Rattle.scope.proofs.Walks.{edge_direction_lt}
use Rattle.gosper.proofs.Walkings.{turned_is}
use Rattle.gosper.proofs.Gosper.turn.Goals as goal

pub returns : goal.returns
returns c =
    let e = c.next_edge-facing in
    let l = edge_direction_lt e.result in
    let d = c.edge_direction.ensures in
    turned_is c.args.self c.requires e.result _ c.args.changed e.ensures (let h : _ ≡ _ = omega arith in h)
