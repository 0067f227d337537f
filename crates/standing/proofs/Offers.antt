-- Offer: refused before the outline, or the cell taken as a list of one.
-- Assumes nothing.
use mathlib.Core.Path.{◌≡◌, refl, sym, ◌∙◌, ap}
use mathlib.Core.List.{[], ◌∷◌}
use Prim.Native.Nat.{ℕ}
use Rattle.std.specs.Prelude.{Err, Ok}
use Rattle.scope.specs.declared.Refusal.{Refusal}
use Rattle.scope.specs.Answers.{◌▷◌, if_accepted, Verdict}
use Rattle.scope.specs.Table.{Table, target_of, outline_rows}
use Rattle.scope.specs.CellLists.{cell_verdict}
use Rattle.scope.specs.Memory.{Memory, held, kept_mode, held_cells, places}
use Rattle.scope.specs.Pool.{outline_verdict, taking}
use Rattle.scope.specs.Calls.{Outcome, outcome, state_verdict, offer_verdict, offering, offering_all}
use Rattle.scope.proofs.Verdicts.{first_accepts, second_accepts}
use Rattle.scope.proofs.CellOffers.{offer_is_list}
use Rattle.scope.proofs.Sound.{sound_state}
use Rattle.answers.proofs.InARow.{then_stops, then_assoc}
use Rattle.answers.proofs.Outcomes.{turned_down}
use Rattle.admission.specs.Admits.{admits}
use Rattle.taking.specs.Taking.{ListAsks, TakesAll}

module _ (t : Table) (m : Memory) (x : ℕ) where
  module _ {v : Verdict} (q : v ≡ admits t m x) where
    pub offer_stops : {why : Refusal} → v ≡ Err why → record { answer = Err why; left = m } ≡ offering t m x
    unfolding offering offer_verdict admits
    offer_stops {why} e =
        let cell = cell_verdict (kept_mode m) (target_of t) (places m) (held_cells m) x in
        let o = outline_verdict t m (outline_rows t x) in
        turned_down (Err why) (taking t m x) m refl ∙ ap (λ (w : Verdict). outcome w (taking t m x) m) (then_stops (state_verdict t m ▷ cell) o (sym e ∙ q) refl ∙ then_assoc (state_verdict t m) cell o)

    pub offer_asks : v ≡ Ok tt → ListAsks t m (x ∷ [])
    unfolding admits
    offer_asks e =
        let all = sym q ∙ e in
        let S = sound_state t m (first_accepts (state_verdict t m) _ all) in
        record {
          sound = S;
          list = sym (offer_is_list (kept_mode m) (target_of t) (held m) (places m) (held_cells m) x S.rules.cells_pass) ∙ second_accepts (state_verdict t m) _ all;
        }

  one_offer : offering_all t m (x ∷ []) ≡ offering t m x
  unfolding offering_all
  one_offer = go (offering t m x).answer (offering t m x).left
    where
      go : (v : Verdict) (l : Memory) → if_accepted {A = Outcome} v (record { answer = Ok tt; left = l }) (record { answer = v; left = l }) ≡ record { answer = v; left = l }
      go (Ok done) l = refl
      go (Err why) l = refl

  pub offer_taken : {v : Verdict} {m' : Memory} → TakesAll t m (x ∷ []) v m' → record { answer = v; left = m' } ≡ offering t m x
  offer_taken T = T.done ∙ one_offer
