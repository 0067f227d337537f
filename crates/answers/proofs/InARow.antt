-- Tests in a row, by the answer of the first: a refusal stops, else the rest decides.
--     then_stops, then_goes_on     two tests
--     then_assoc                   three
--     require_both                 one test of two facts
-- Assumes nothing.
use mathlib.Core.Path.{◌≡◌, refl, sym, ◌∙◌, ap}
use mathlib.Core.Bool.{Bool, true, false, ◌&&◌}
use Rattle.scope.specs.declared.Refusal.{Refusal}
use Rattle.std.specs.Prelude.{Err, Ok}
use Rattle.scope.specs.Answers.{require, ◌▷◌, is_accepted, Verdict}
use Rattle.scope.proofs.Verdicts.{accepted}

pub then_stops : {v : Verdict} (first second : Verdict) → v ≡ first → is_accepted v ≡ false → v ≡ (first ▷ second)
then_stops first second q e = go first q e
  where
    go : {v : Verdict} (f : Verdict) → v ≡ f → is_accepted v ≡ false → v ≡ (f ▷ second)
    go (Ok done) q e = cc
    go (Err why) q e = q

pub then_goes_on : {v : Verdict} (first second : Verdict) → v ≡ first → is_accepted v ≡ true → second ≡ (first ▷ second)
then_goes_on {v} first second q e = sym (ap (λ (w : Verdict). w ▷ second) (sym q ∙ accepted v e))

pub then_assoc : (a b c : Verdict) → ((a ▷ b) ▷ c) ≡ (a ▷ b ▷ c)
then_assoc (Ok done) b c = refl
then_assoc (Err why) b c = refl

pub require_both : (a b : Bool) (why : Refusal) → require (a && b) why ≡ (require a why ▷ require b why)
require_both true b why = refl
require_both false b why = refl
