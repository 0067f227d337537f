-- The tests one after the other: what each answer of the code says of the call's verdict.
--     some_row                     dissolve before its work
--     state-..                     offer and read out: 10, 1, 9
--     cell_asks, admit-..          an offer before its outline
-- Assumes nothing.
use mathlib.Core.Path.{◌≡◌, sym, ◌∙◌, ap}
use mathlib.Core.Bool.{Bool, true, ◌&&◌}
use Prim.Native.Nat.{ℕ, ◌<◌}
use native.Mathlib.Omega.{arith}
use lib.ListN.{length}
use Rattle.std.specs.Prelude.{Ok, Err}
use Rattle.scope.specs.declared.Refusal.{Refusal}
use Rattle.scope.specs.declared.Refusal.TheVariants.{BrokenState, BadLengths}
use Rattle.scope.specs.Answers.{require, is_accepted, Verdict}
use Rattle.scope.specs.Table.{Table, target_of, table_verdict}
use Rattle.scope.specs.CellLists.{cell_verdict}
use Rattle.scope.specs.Memory.{Memory, kept_mode, held_cells, places, lengths_fit, mode_fits, table_agrees}
use Rattle.scope.specs.Rules.{rules_kept}
use Rattle.scope.specs.Calls.{state_verdict}
use Rattle.scope.proofs.Tests.{and_right}
use Rattle.scope.proofs.Lengths.{lengths_good}
use Rattle.scope.proofs.Verdicts.{first_accepts, second_accepts, require_holds}
use Rattle.scope.proofs.Tables.{table_good}
use Rattle.scope.proofs.Sound.{sound_state, sound_table}
use Rattle.answers.proofs.InARow.{then_stops, then_goes_on}
use Rattle.edge_table.specs.Checks.{checked}
use Rattle.rules.specs.Slices.{Lent}
use Rattle.admission.specs.Admits.{table_after, open_after, state_after, admits, CellAsks}
use Rattle.admission.proofs.Fitting.{state_is}

-- ---- dissolve before its work

module _ (t : Table) (fits : Bool) (mode : ℕ) {v : Verdict} (q : v ≡ open_after fits mode t) where
  -- a table that is accepted has a row
  pub some_row : v ≡ Ok tt → 0 < length t.edges
  unfolding open_after table_after checked
  some_row e =
      let tests = require (fits && mode_fits mode) BadLengths in
      let rest = second_accepts tests _ (sym q ∙ e) in
      let T = table_good t (require_holds (table_agrees t) BadLengths (first_accepts _ (table_verdict t) rest)) (second_accepts (require (table_agrees t) BadLengths) _ rest) in
      omega (arith, T.two)

-- ---- 10, 1, 9

module _ (t : Table) (m : Memory) (agree : Bool) {fits : Bool} {v : Verdict} (f : fits ≡ lengths_fit t m) (q : v ≡ table_after (agree && fits) t) where
  tested : v ≡ table_after (agree && lengths_fit t m) t
  tested = q ∙ ap (λ (b : Bool). table_after (agree && b) t) f

  pub rules_asks : v ≡ Ok tt → Lent t m
  unfolding table_after checked
  rules_asks e =
      let all = sym tested ∙ e in
      let rest = second_accepts (require (agree && lengths_fit t m) BadLengths) _ all in
      let fits = and_right agree (lengths_fit t m) (require_holds (agree && lengths_fit t m) BadLengths (first_accepts _ _ all)) in
      let T = table_good t (require_holds (table_agrees t) BadLengths (first_accepts _ (table_verdict t) rest)) (second_accepts (require (table_agrees t) BadLengths) _ rest) in
      record { lengths = lengths_good t m fits; most_rows = T.most }

  pub state_stops : {why : Refusal} → v ≡ Err why → Err why ≡ state_after agree t m
  state_stops e = sym e ∙ then_stops (table_after (agree && lengths_fit t m) t) (require (rules_kept t m) BrokenState) tested (ap is_accepted e) ∙ state_is t m agree

  pub state_rules : v ≡ Ok tt → {b : Bool} → b ≡ rules_kept t m → require b BrokenState ≡ state_after agree t m
  state_rules e p =
      ap (λ (k : Bool). require k BrokenState) p ∙ then_goes_on (table_after (agree && lengths_fit t m) t) (require (rules_kept t m) BrokenState) tested (ap is_accepted e) ∙ state_is t m agree

-- ---- an offer before its outline

module _ (t : Table) (m : Memory) {v : Verdict} (q : v ≡ state_after true t m) where
  state : v ≡ state_verdict t m
  unfolding state_after
  state = q

  pub admit_stops : (x : ℕ) {why : Refusal} → v ≡ Err why → Err why ≡ admits t m x
  unfolding admits
  admit_stops x e = sym e ∙ then_stops (state_verdict t m) (cell_verdict (kept_mode m) (target_of t) (places m) (held_cells m) x) state (ap is_accepted e)

  pub admit_goes_on : (x : ℕ) → v ≡ Ok tt → cell_verdict (kept_mode m) (target_of t) (places m) (held_cells m) x ≡ admits t m x
  unfolding admits
  admit_goes_on x e = then_goes_on (state_verdict t m) (cell_verdict (kept_mode m) (target_of t) (places m) (held_cells m) x) state (ap is_accepted e)

  pub cell_asks : v ≡ Ok tt → CellAsks t.edges m.head m.cells
  cell_asks e =
      let S = sound_state t m (sym state ∙ e) in
      let T = sound_table S in
      record { some = omega (arith, T.two); head_two = S.lengths.head; count_fits = S.rules.count_fits }
