-- `number_in` meets its contract. The number before place i.
-- Assumes nothing.
use native.Mathlib.Omega.{arith}
use Rattle.cell_words.proofs.Numbers.{reads_none, reads_next, room}
use Rattle.cell_words.proofs.number_in.Goals as goal

pub loop-b-init : goal.loop-b-init
loop-b-init c = reads_none _

pub overflow_mul-number : goal.overflow_mul-number
overflow_mul-number c = omega (arith, room c.loop-b.invariant (omega arith))

pub overflow_add-number : goal.overflow_add-number
overflow_add-number c = omega (arith, room c.loop-b.invariant (omega arith))

pub loop-b-preserved : goal.loop-b-preserved
loop-b-preserved c = reads_next c.loop-b.invariant (omega arith) _ (c.worth_of.ensures.worth, c.worth_of.ensures.digit)
