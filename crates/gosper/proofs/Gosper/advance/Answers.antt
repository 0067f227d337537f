-- `gosper::advance` meets its contract: the levels over the finest one, the finest one, then the edge position.
-- Assumes nothing.
use mathlib.Core.Path.{◌∙◌}
use Rattle.gosper.proofs.Advances.{Advanced, levels_shown, advanced_walking, advanced_is}
use Rattle.gosper.proofs.Gosper.advance.Goals as goal

pub settle-over-requires : goal.settle-over-requires
settle-over-requires c =
    let w = c.requires.0 in
    (c.requires.1, w.deep, w.finest, levels_shown c.args.self w c.requires.1)

steps : (c : goal.After-set_digit-moved)
    → Advanced c.args.self c.settle-over.new.positions
    c.settle-over.result c.next_position-q.result c.walk_digit.result c.set_digit-moved.result
steps c =
    record {
      over = c.settle-over.ensures;
      position = c.next_position-q.ensures;
      shown = c.walk_digit.ensures;
      digit = c.set_digit-moved.ensures;
    }

pub turn-requires : goal.turn-requires
turn-requires c =
    advanced_walking c.args.self c.requires.0 c.requires.1 _ _ _ _ _ (steps c)

pub returns : goal.returns
returns c =
    let steps : Advanced c.args.self c.settle-over.new.positions
    c.settle-over.result c.next_position-q.result c.walk_digit.result c.set_digit-moved.result =
    record {
      over = c.settle-over.ensures;
      position = c.next_position-q.ensures;
      shown = c.walk_digit.ensures;
      digit = c.set_digit-moved.ensures;
    } in
    c.turn.ensures ∙ advanced_is c.args.self c.requires.0 c.requires.1 _ _ _ _ _ (steps)
