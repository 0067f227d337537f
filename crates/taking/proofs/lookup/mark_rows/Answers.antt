-- `taking::lookup::mark_rows` meets its contract. The edges still to be walked are those of the walk; each that is met is found, and its row stored or known.
-- Assumes nothing.
use mathlib.Core.Path.{◌≡◌, sym, ◌∙◌}
use lib.ListN.{length}
use Rattle.gosper.specs.Walking.{rest}
use Rattle.taking.proofs.Looking.{looking_absent, looking_row, looking_new, looking_again, looking_end}
use native.Mathlib.Omega.{arith}
use Rattle.taking.proofs.lookup.mark_rows.Goals as goal

pub returns-in_default : goal.returns-in_default
returns-in_default c = looking_absent c.requires c.loop-walk.invariant.1 c.step-stepped.ensures.rest (sym c.in_default.is ∙ c.find_noted.ensures)

pub store_row-requires : goal.store_row-requires
store_row-requires c = looking_row c.requires c.loop-walk.invariant.1 c.step-stepped.ensures.rest (sym c.in-Some.is ∙ c.find_noted.ensures)

pub loop-walk-preserved-then-store_row : goal.loop-walk-preserved-then-store_row
loop-walk-preserved-then-store_row c = (c.step-stepped.ensures.walking, looking_new c.requires c.loop-walk.invariant.1 c.step-stepped.ensures.rest (sym c.in-Some.is ∙ c.find_noted.ensures) c.store_row.ensures c.store_row.auto.row_mark c.store_row.auto.rows c.if-store_row.true)

pub loop-walk-preserved : goal.loop-walk-preserved
loop-walk-preserved c = (c.step-stepped.ensures.walking, looking_again c.requires c.loop-walk.invariant.1 c.step-stepped.ensures.rest (sym c.in-Some.is ∙ c.find_noted.ensures) c.store_row.ensures c.store_row.auto.row_mark c.store_row.auto.rows c.if-store_row.false)

pub returns : goal.returns
returns c = let z : length (rest c.loop-walk.walk) ≡ 0 = omega (arith, c.len.ensures, c.loop-walk-test.false) in looking_end c.requires c.loop-walk.invariant.1 z
