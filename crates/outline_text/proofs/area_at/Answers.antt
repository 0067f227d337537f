-- `outline_text::area_at` meets its contract. The NaN of the language is the one of the definitions.
-- Assumes nothing.
use mathlib.Core.Path.{◌≡◌, refl, ◌∙◌, ap}
use lib.Ieee.{nan, binary64, of_bits}
use lib.ListN.{get_or}
use Rattle.outline_text.proofs.area_at.Goals as goal

not_a_number : of_bits binary64 0x7ff8000000000000 ≡ nan
unfolding of_bits
not_a_number = refl

pub returns : goal.returns
returns c = c.at_or.ensures ∙ ap (get_or c.args.area.now c.args.i) not_a_number
