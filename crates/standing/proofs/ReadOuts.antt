-- Read out: the state's verdict after its outputs' lengths, and the reading behind it.
-- Assumes nothing.
use mathlib.Core.Path.{◌≡◌, sym, ◌∙◌, ap}
use mathlib.Core.Bool.{Bool}
use Rattle.scope.specs.declared.Refusal.TheVariants.{BadLengths}
use Rattle.scope.specs.Answers.{require, ◌▷◌, Verdict}
use Rattle.scope.specs.Table.{Table}
use Rattle.scope.specs.Memory.{Memory, Output, outputs_agree}
use Rattle.scope.specs.Order.{view}
use Rattle.scope.specs.Calls.{Reading, reading, read_from, output_fits, state_verdict, read_verdict, reading_out}
use Rattle.scope.proofs.Verdicts.{first_accepts, second_accepts, require_holds}
use Rattle.scope.proofs.Sound.{sound_state}
use Rattle.answers.proofs.InARow.{then_assoc}
use Rattle.admission.specs.Admits.{state_after}
use Rattle.reading.specs.Reading.{reading_if, ReadAsks}
use Rattle.reading.proofs.Readings.{read_asks}

module _ (t : Table) (m : Memory) (o : Output) {agree : Bool} {v : Verdict} (a : agree ≡ outputs_agree o) (q : v ≡ state_after agree t m) where
  tested : v ≡ (require (outputs_agree o) BadLengths ▷ state_verdict t m)
  unfolding state_after
  tested = q ∙ ap (λ (b : Bool). state_after b t m) a

  pub readable : ReadAsks v t m o
  readable = read_asks v t m o
      (λ e. sound_state t m (second_accepts (require (outputs_agree o) BadLengths) _ (sym tested ∙ e)))
      (λ e. require_holds (outputs_agree o) BadLengths (first_accepts _ (state_verdict t m) (sym tested ∙ e)))

  behind : reading_if v t m o ≡ reading_out t m o
  unfolding reading_if reading_out read_verdict
  behind =
      let fits = require (output_fits (view t m) o) BadLengths in
      ap (λ (w : Verdict). reading (w ▷ fits) (read_from t m o) m o) tested
      ∙ ap (λ (w : Verdict). reading w (read_from t m o) m o) (then_assoc (require (outputs_agree o) BadLengths) (state_verdict t m) fits)

  pub read_out_is : {r : Reading} → r ≡ reading_if v t m o → r ≡ reading_out t m o
  read_out_is p = p ∙ behind
