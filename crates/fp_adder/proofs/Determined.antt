-- What the contracts say of `adder_of` an answer determines the answer: the struct has no more than the adder.
-- Assumes nothing.
use mathlib.Core.Path.{◌≡◌, ap}
use Rattle.scope.specs.Area.{Adder}
use Rattle.fp_adder.specs.Adders.{adder_of}
use Rattle.fp_adder.specs.declared.FloatAdder.{FloatAdder}

pub adder_determined : (a b : FloatAdder) → adder_of a ≡ adder_of b → a ≡ b
adder_determined a b e = ap (λ (x : Adder). record { sum = x.sum; correction = x.correction }) e
