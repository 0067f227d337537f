-- `note_text::put_area_decimal` meets its contract. By the two tests.
-- Assumes nothing.
use Rattle.std.proofs.Common.{T, sym, subst}
use lib.Ieee.{of_bits, neg}
use Rattle.text.proofs.Writing.{wrote_none, wrote_more}
use Rattle.note_text.proofs.Areas.{area_whole, area_low, area_high}
use Rattle.note_text.proofs.put_area_decimal.Goals as goal

pub returns-then-y-2 : goal.returns-then-y-2
returns-then-y-2 c = rw (area_whole c.args.x c.if-y.true c.if-y-2.true, ← c.truncating_f64_to_u64-parts.ensures) (wrote_more c.put_pointed-decimal.ensures c.put_bytes.ensures)

pub returns-else-y-2 : goal.returns-else-y-2
returns-else-y-2 c = rw (area_high c.args.x c.if-y.true c.if-y-2.false) (wrote_none _ _ c.requires)

pub returns-else-y : goal.returns-else-y
returns-else-y c = rw (area_low c.args.x c.if-y.false) (wrote_none _ _ c.requires)

pub truncating_f64_to_u64-parts-requires-clause-lower_bound :
    goal.truncating_f64_to_u64-parts-requires-clause-lower_bound
unfolding of_bits neg
truncating_f64_to_u64-parts-requires-clause-lower_bound c = subst T (sym c.if-y.true) tt

pub truncating_f64_to_u64-parts-requires-clause-upper_bound :
    goal.truncating_f64_to_u64-parts-requires-clause-upper_bound
unfolding of_bits neg
truncating_f64_to_u64-parts-requires-clause-upper_bound c = subst T (sym c.if-y-2.true) tt
