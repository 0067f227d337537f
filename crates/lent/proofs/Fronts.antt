-- The first rows, slots and places of cleared arrays are cleared.
--     first_columns, first_outputs     of a state's, and of an output's
-- Assumes nothing.
use Prim.Native.Nat.{ℕ, ◌+◌, ◌-◌, ◌≤◌}
use mathlib.Core.Path.{◌≡◌, sym, ◌∙◌, ap}
use native.Mathlib.Omega.{arith}
use lib.Ieee.{Float}
use lib.ListN.{take, replicate, length-replicate, replicate-append-replicate}
use lib.Seq.{take_at}
use Rattle.scope.specs.Area.{positive_zero}
use Rattle.scope.specs.Memory.{Memory, Output, output}
use Rattle.scope.specs.Bytes.{cleared}
use Rattle.lent.specs.Arrays.{first_of, Few, outputs_within}
use Rattle.lent.specs.declared.arrays.Sizes.{Sizes}

front : {A : Type 0} (n k : ℕ) (x : A) → n ≤ k → take n (replicate k x) ≡ replicate n x
front n k x h =
    let e : k ≡ n + (k - n) = omega arith in
    ap (take n) (ap (λ (j : ℕ). replicate j x) e ∙ sym (replicate-append-replicate n (k - n) x)) ∙ take_at (replicate n x) (replicate (k - n) x) n (length-replicate n x)

pub first_columns : {m : Memory} {s : Sizes} {rows slots places : ℕ} → m ≡ cleared rows slots places → Few s rows slots places
    → first_of s m ≡ cleared s.rows s.slots s.places
unfolding cleared
first_columns {m} {s} {rows} {slots} {places} e few =
    rw (e, front {A = ℕ} s.rows rows 0 few.rows, front {A = ℕ} s.slots slots 0 few.slots, front {A = ℕ} s.places places 0 few.places)

pub first_outputs : {o : Output} {rings edges : ℕ} (n k : ℕ) → o ≡ outputs_within rings edges → n ≤ rings → k ≤ edges
    → output (take n o.start) (take n o.size) (take n o.group) (take n o.area) (take k o.edges) ≡ outputs_within n k
first_outputs {o} {rings} {edges} n k e h l =
    rw (e, front {A = ℕ} n rings 0 h, front {A = ℕ} k edges 0 l, front {A = Float} n rings positive_zero h)
