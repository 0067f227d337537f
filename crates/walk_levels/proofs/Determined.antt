-- The promises by a record leave one outcome each.
--     digit_one      a digit written
--     levels_one     the levels that have moved, and the number that has their digits
--     starts_one     the positions at the start of a walk, and the edge there
-- Assumes nothing.
use Prim.Native.Nat.{ℕ}
use mathlib.Core.Path.{◌≡◌, sym, ◌∙◌, ap}
use mathlib.Core.List.{List}
use Rattle.scope.specs.Walk.{Moved}
use Rattle.walk_levels.specs.declared.Written.{Written}
use Rattle.walk_levels.specs.Levels.{written, DigitSet, Leaves}
use Rattle.walk_levels.specs.Starts.{Starts}

pub digit_one : {x r d : ℕ} {v w : Written} → DigitSet x r d v → DigitSet x r d w → v ≡ w
digit_one A B = λ i. record { scratchpad = (A.scratchpad ∙ sym B.scratchpad) i; changed = (A.changed ∙ sym B.changed) i }

pub levels_one : {c r x : ℕ} {m : Moved} {qs qs' : List ℕ} {v w : Written} → Leaves c r x m qs v → Leaves c r x m qs' w → (qs ≡ qs') × (v ≡ w)
levels_one {c} {r} {x} A B =
    let same = A.positions ∙ sym B.positions in
    let number = A.scratchpad ∙ ap (λ (ps : List ℕ). written x c r ps) same ∙ sym B.scratchpad in
    (same, λ i. record { scratchpad = number i; changed = (A.changed ∙ sym B.changed) i })

pub starts_one : {ps ps' : List ℕ} {x c t k e e' : ℕ} → Starts ps x c t k e → Starts ps' x c t k e' → (ps ≡ ps') × (e ≡ e')
starts_one A B = (A.positions ∙ sym B.positions, A.edge ∙ sym B.edge)
