-- The calls at full size, as numbers: a result in place of the answer, and a summary of what is read out.
-- Assumes nothing.
use Rattle.std.specs.Prelude.{ℕ, ◌≡◌, cond, List, eqb, length, Err}
use Rattle.scope.specs.declared.Refusal.TheVariants.{BadLengths}
use Rattle.scope.specs.Answers.{verdict_of, if_accepted}
use Rattle.scope.specs.Table.{Table}
use Rattle.scope.specs.Memory.{Memory, Output}
use Rattle.scope.specs.Calls.{Outcome, opening, offering, Reading, reading_out, dissolving}
use Rattle.scope.specs.Bytes.{result_of}
use Rattle.telling.specs.Summary.{summary_of}

-- ---- open and offer

pub record Called : Type 0 where
  pub result : ℕ
  pub left : Memory

unfoldable pub called : Outcome → Called
called o = record { result = result_of o.answer; left = o.left }

-- ---- read out and dissolve

pub record Told : Type 0 where
  pub result : ℕ
  pub left : Memory
  pub out : Output
  pub summary : List ℕ

-- A refused call leaves the summary as it was.
unfoldable pub told : Reading → List ℕ → Told
told r summary = record {
  result = result_of (verdict_of r.answer);
  left = r.left;
  out = r.out;
  summary = if_accepted (verdict_of r.answer) (summary_of r.answer) summary;
}

-- 10 first unless the summary has its four numbers.
unfoldable pub four_numbers : List ℕ → Memory → Output → Told → Told
four_numbers summary m o done =
    cond (eqb (length summary) 4) done (record { result = result_of (Err BadLengths); left = m; out = o; summary = summary })

unfoldable pub reading_told : Table → Memory → Output → List ℕ → Told
reading_told t m o summary = four_numbers summary m o (told (reading_out t m o) summary)

unfoldable pub dissolving_told : Table → Memory → ℕ → List ℕ → Output → List ℕ → Told
dissolving_told t m mode cs o summary = four_numbers summary m o (told (dissolving t m mode cs o) summary)

-- ---- what the exports promise: this result, and the memory, the outputs and the summary left

abbrev pub CallsOpen : Table → Memory → ℕ → ℕ → Memory → Type 0
CallsOpen t m mode result left = record { result = result; left = left } ≡ called (opening t m mode)

abbrev pub CallsOffer : Table → Memory → ℕ → ℕ → Memory → Type 0
CallsOffer t m cell result left = record { result = result; left = left } ≡ called (offering t m cell)

abbrev pub TellsReadOut : Table → Memory → Output → List ℕ → ℕ → Memory → Output → List ℕ → Type 0
TellsReadOut t m o summary result left out summary' = record { result = result; left = left; out = out; summary = summary' } ≡ reading_told t m o summary

abbrev pub TellsDissolve : Table → Memory → ℕ → List ℕ → Output → List ℕ → ℕ → Memory → Output → List ℕ → Type 0
TellsDissolve t m mode cs o summary result left out summary' =
    record { result = result; left = left; out = out; summary = summary' } ≡ dissolving_told t m mode cs o summary
