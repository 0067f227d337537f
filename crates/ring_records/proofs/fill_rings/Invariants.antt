-- The loop of `ring_records::fill_rings`: the first i records are filled.
use mathlib.Core.Path.{◌≡◌}
use Rattle.ring_records.specs.Records.{filled}
use Rattle.ring_records.proofs.fill_rings.Given as goal

abbrev pub invariant-loop-i : goal.invariant-loop-i
invariant-loop-i l = l.rings ≡ filled l.starts l.lengths l.groups l.areas l.i l.initial.rings
