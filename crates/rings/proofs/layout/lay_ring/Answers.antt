-- `layout/lay_ring` meets its contract. The invariant: what is passed is written, and the slot is the row's.
-- Assumes nothing.
use native.Mathlib.Omega.{arith}
use mathlib.Core.Path.{refl, sym, ap, ◌∙◌}
use Prim.Native.Nat.{ℕ, ◌-◌}
use Rattle.scope.specs.Lists.{at}
use Rattle.rings.proofs.Rounds.{round_on, round_most}
use Rattle.rings.proofs.Laying.{lay_start, lay_room, lay_on, lay_back}
use Rattle.rings.proofs.layout.lay_ring.Goals as goal

pub loop-x-init : goal.loop-x-init
loop-x-init c = (lay_start c.requires, c.slot_of-slot.ensures)

pub overflow_add-from : goal.overflow_add-from
overflow_add-from c = let h = (lay_room c.loop-x.invariant.0 refl).0 in omega arith

pub put32-requires : goal.put32-requires
put32-requires c = let h = lay_room c.loop-x.invariant.0 refl in (h.0, omega arith)

pub overflow_add-k : goal.overflow_add-k
overflow_add-k c =
    let h = round_most c.loop-x.invariant.0.round refl in omega arith

pub next_slot-slot-requires : goal.next_slot-slot-requires
next_slot-slot-requires c = let loop = c.loop-x in (round_on loop.invariant.0.round, loop.invariant.1)

pub loop-x-smaller : goal.loop-x-smaller
loop-x-smaller c =
    let h = round_most c.loop-x.invariant.0.round refl in omega arith

pub loop-x-preserved : goal.loop-x-preserved
loop-x-preserved c =
    let after = c.next_slot-slot.ensures in
    (rw c.put32.ensures (lay_on c.loop-x.invariant.0 (c.row_in-x.ensures ∙ after.row) c.if-x-r.false), after.own ∙ ap (λ (y : ℕ). at c.args.view.now.row_slot.now y - 1) (sym c.row_in-x.ensures))

pub returns-then-x-r : goal.returns-then-x-r
returns-then-x-r c = rw c.put32.ensures (lay_back c.loop-x.invariant.0 (c.row_in-x.ensures ∙ c.next_slot-slot.ensures.row) c.if-x-r.true)
