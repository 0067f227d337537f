-- `layout/ring_areas` meets its contract. A loop that fills a list.
-- Assumes nothing.
use native.Mathlib.Omega.{arith}
use mathlib.Core.Path.{refl, ◌∙◌, ap}
use mathlib.Core.List.{List}
use Prim.Native.Nat.{ℕ, ◌+◌}
use Rattle.scope.specs.Area.{area_of}
use Rattle.ring_sort.proofs.Fills.{fill_next}
use Rattle.ring_sort.proofs.Parts.{slice_take}
use Rattle.rings.specs.Laying.{terms_of}
use Rattle.rings.proofs.layout.ring_areas.Goals as goal

pub loop-i-preserved : goal.loop-i-preserved
loop-i-preserved c =
    let from = c.get32-from.result in
    fill_next c.loop-i.invariant (omega arith) c.loop-i.invariant.ready.room _
    (c.ring_area.ensures ∙ ap (λ (l : List ℕ). area_of (terms_of c.args.terms.now l)) (slice_take from (from + c.get32.result) c.args.edges.now)
    ∙ rw (c.get32-from.ensures.0, c.get32.ensures.0) refl)
