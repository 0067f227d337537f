-- `walk/mark_ring` meets its contract. The invariant: what is passed is marked, no other row has changed, and the slot is the row's.
-- Assumes nothing.
use native.Mathlib.Omega.{arith}
use mathlib.Core.Path.{refl, sym, ap, ◌∙◌}
use Prim.Native.Nat.{ℕ, ◌-◌}
use Rattle.scope.specs.Lists.{at}
use Rattle.rings.proofs.Rounds.{round_on, round_most}
use Rattle.rings.proofs.Marks.{mark_start, mark_in, mark_on, mark_first, mark_back}
use Rattle.rings.proofs.walk.mark_ring.Goals as goal

pub loop-x-init : goal.loop-x-init
loop-x-init c = (mark_start c.requires, c.slot_of-slot.ensures)

pub put32-requires : goal.put32-requires
put32-requires c = (mark_in c.loop-x.invariant.0, omega arith)

pub overflow_add-k : goal.overflow_add-k
overflow_add-k c =
    let h = round_most c.loop-x.invariant.0.round refl in omega arith

pub next_slot-slot-requires : goal.next_slot-slot-requires
next_slot-slot-requires c = let loop = c.loop-x in (round_on loop.invariant.0.round, loop.invariant.1)

pub loop-x-smaller : goal.loop-x-smaller
loop-x-smaller c =
    let h = round_most c.loop-x.invariant.0.round refl in omega arith

pub loop-x-preserved : goal.loop-x-preserved
loop-x-preserved c =
    let after = c.next_slot-slot.ensures in
    (rw c.put32.ensures (mark_on c.loop-x.invariant.0 (c.row_in-x.ensures ∙ after.row) c.if-x-r.false), after.own ∙ ap (λ (y : ℕ). at c.args.view.now.row_slot.now y - 1) (sym c.row_in-x.ensures))

pub put32-requires-then-x-r : goal.put32-requires-then-x-r
put32-requires-then-x-r c = rw c.put32.ensures (mark_first c.loop-x.invariant.0 (c.row_in-x.ensures ∙ c.next_slot-slot.ensures.row) c.if-x-r.true, omega arith)

pub returns-then-x-r : goal.returns-then-x-r
returns-then-x-r c =
    rw (c.put32-then-x-r.ensures, c.put32.ensures) (mark_back c.loop-x.invariant.0 (c.row_in-x.ensures ∙ c.next_slot-slot.ensures.row) c.if-x-r.true)
