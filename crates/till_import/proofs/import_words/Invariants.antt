-- The loop of `till_import::import_words`.
use mathlib.Core.Path.{◌≡◌}
use lib.ListN.{length}
use Rattle.till_import.proofs.import_words.Given as goal

abbrev pub invariant-loop-k : goal.invariant-loop-k
invariant-loop-k g l = length l.text ≡ length l.initial.text
