-- Open: its verdict from what was found of the lengths, and the call by that verdict.
-- Assumes nothing.
use mathlib.Core.Path.{◌≡◌, refl, sym, ◌∙◌, ap}
use mathlib.Core.Bool.{Bool, ◌&&◌}
use Prim.Native.Nat.{ℕ}
use lib.ListN.{length}
use Rattle.std.specs.Prelude.{Ok, Err}
use Rattle.scope.specs.declared.Refusal.{Refusal}
use Rattle.scope.specs.declared.Refusal.TheVariants.{BadLengths}
use Rattle.scope.specs.Answers.{require, Verdict}
use Rattle.scope.specs.Table.{Table}
use Rattle.scope.specs.Memory.{Memory, opened, lengths_fit, mode_fits}
use Rattle.scope.specs.Calls.{outcome, open_verdict, opening}
use Rattle.scope.proofs.Tests.{and_left}
use Rattle.scope.proofs.Verdicts.{first_accepts, require_holds}
use Rattle.scope.proofs.Lengths.{lengths_good}
use Rattle.answers.proofs.Outcomes.{carried_out, turned_down}
use Rattle.admission.specs.Admits.{open_after}
use Rattle.admission.proofs.Fitting.{open_is}

module _ (t : Table) (m : Memory) (mode : ℕ) {fits : Bool} {v : Verdict} (f : fits ≡ lengths_fit t m) (q : v ≡ open_after fits mode t) where
  tested : v ≡ open_verdict t m mode
  tested = q ∙ ap (λ (b : Bool). open_after b mode t) f ∙ open_is t m mode

  -- where both tests accept, the head has its two numbers
  pub head_two : v ≡ Ok tt → length m.head ≡ 2
  unfolding open_verdict
  head_two e =
      let lengths = require_holds _ BadLengths (first_accepts (require (lengths_fit t m && mode_fits mode) BadLengths) _ (sym tested ∙ e)) in
      (lengths_good t m (and_left _ _ lengths)).head

  pub opens : v ≡ Ok tt → {left : Memory} → left ≡ opened mode m → record { answer = Ok tt; left = left } ≡ opening t m mode
  unfolding opening
  opens e p = carried_out (Ok tt) (opened mode m) m refl p ∙ ap (λ (w : Verdict). outcome w (opened mode m) m) (sym e ∙ tested)

  pub opens_not : {why : Refusal} → v ≡ Err why → record { answer = Err why; left = m } ≡ opening t m mode
  unfolding opening
  opens_not {why} e = turned_down (Err why) (opened mode m) m refl ∙ ap (λ (w : Verdict). outcome w (opened mode m) m) (sym e ∙ tested)
