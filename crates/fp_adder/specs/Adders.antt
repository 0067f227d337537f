-- The struct `FloatAdder` as document 01's adder.
-- Assumes nothing.
use Rattle.scope.specs.Area.{Adder, adder}
use Rattle.fp_adder.specs.declared.FloatAdder.{FloatAdder}

abbrev pub adder_of : FloatAdder → Adder
adder_of a = adder a.sum a.correction
