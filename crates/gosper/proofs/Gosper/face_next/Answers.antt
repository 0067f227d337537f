-- `gosper::face_next` meets its contract.
-- Assumes nothing.
use mathlib.Core.Path.{◌∙◌}
use Rattle.gosper.proofs.Rests.{turned_walking, own_next, own_over}
use Rattle.gosper.proofs.Gosper.face_next.Goals as goal

pub turn-requires : goal.turn-requires
turn-requires c = turned_walking c.args.self c.requires.0 c.turn-turned.ensures

pub returns-then-self : goal.returns-then-self
returns-then-self c =
    c.turn.ensures ∙ own_over c.args.self c.requires.0 c.requires.1 c.if-self.true c.turn-turned.ensures

pub returns : goal.returns
returns c =
    c.turn-turned.ensures ∙ own_next c.args.self c.requires.0 c.requires.1 c.if-self.false
