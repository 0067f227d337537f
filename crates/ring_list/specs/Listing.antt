-- Read out and dissolve over a lent slice of records beside the core's four plain slices and its edge list.
-- The answer, the memory and the outputs are the core's, and the records are those of the outputs.
-- Assumes nothing.
use Rattle.std.specs.Prelude.{ℕ, ◌≡◌, List, eqb, length}
use Rattle.scope.specs.declared.Refusal.TheVariants.{BadLengths}
use Rattle.scope.specs.Answers.{require, rings_of, Answer}
use Rattle.scope.specs.Table.{Table}
use Rattle.scope.specs.Memory.{Memory, Output}
use Rattle.scope.specs.Calls.{Reading, reading, reading_out, dissolving}
use Rattle.ring_records.specs.Records.{filled, Enough}
use Rattle.ring_records.specs.declared.Ring.{Ring}

pub record Listing : Type 0 where
  pub reading : Reading
  pub rings : List Ring

-- 10 unless slices agree in length: there are as many records as the plain slices have places.
abbrev pub agreeing : ℕ → Output → Reading → Memory → Reading
agreeing records o done m = reading (require (eqb records (length o.start)) BadLengths) done m o

unfoldable pub reading_agreed : Table → Memory → Output → ℕ → Reading
reading_agreed t m o records = agreeing records o (reading_out t m o) m

unfoldable pub dissolving_agreed : Table → Memory → ℕ → List ℕ → Output → ℕ → Reading
dissolving_agreed t m mode cs o records = agreeing records o (dissolving t m mode cs o) m

-- A record for each ring that the answer counts, from the outputs as they are left. The others stay as they were, all of them where
-- the answer is no outline.
abbrev pub listed : Reading → List Ring → Listing
listed done rings = record {
  reading = done;
  rings = filled done.out.start done.out.size done.out.group done.out.area (rings_of done.answer) rings;
}

-- There are as many records, and places of each plain slice, as the answer counts rings.
abbrev pub Records : Answer → List Ring → Output → Type 0
Records answer rings o = Enough (rings_of answer) rings o.start o.size o.group o.area

unfoldable pub reading_rings : Table → Memory → Output → List Ring → Listing
reading_rings t m o rings = listed (reading_agreed t m o (length rings)) rings

unfoldable pub dissolving_rings : Table → Memory → ℕ → List ℕ → Output → List Ring → Listing
dissolving_rings t m mode cs o rings = listed (dissolving_agreed t m mode cs o (length rings)) rings

-- ---- what the two calls promise: this answer, and the memory, the outputs and the records left

abbrev pub ReadsRings : Table → Memory → Output → List Ring → Answer → Memory → Output → List Ring → Type 0
ReadsRings t m o rings answer left out rings' = record { reading = record { answer = answer; left = left; out = out }; rings = rings' } ≡ reading_rings t m o rings

abbrev pub DissolvesRings : Table → Memory → ℕ → List ℕ → Output → List Ring → Answer → Memory → Output → List Ring → Type 0
DissolvesRings t m mode cs o rings answer left out rings' =
    record { reading = record { answer = answer; left = left; out = out }; rings = rings' } ≡ dissolving_rings t m mode cs o rings
