-- Refusal 10 as the calls test it, and the table's check behind it.
--     lengths_are     the tests of a call's slices are `lengths_fit`
--     agrees          where the lengths fit, the table's three slices agree
--     open_is, list_is, state_is     what was found of the lengths put in: `open_verdict`, `dissolve_verdict`, and the state's verdict
-- Assumes nothing.
use mathlib.Core.Path.{◌≡◌, refl}
use mathlib.Core.Bool.{Bool, true, false, ◌&&◌}
use mathlib.Core.List.{List}
use Prim.Native.Nat.{ℕ}
use lib.Dec.{eqb}
use lib.ListN.{length}
use Rattle.scope.specs.declared.Refusal.TheVariants.{BrokenState, BadLengths}
use Rattle.scope.specs.Answers.{require, ◌▷◌}
use Rattle.scope.specs.Table.{Table, target_of, table_verdict}
use Rattle.scope.specs.CellLists.{list_verdict}
use Rattle.scope.specs.Memory.{Memory, Output, kept, places, table_agrees, places_agree, slots_agree, rows_agree, capacities_fit, lengths_fit, mode_fits, outputs_agree}
use Rattle.scope.specs.Rules.{rules_kept}
use Rattle.scope.specs.Calls.{open_verdict, state_verdict, dissolve_verdict}
use Rattle.scope.proofs.Tests.{and_left}
use Rattle.edge_table.specs.Checks.{checked}
use Rattle.admission.specs.Admits.{table_after, open_after, list_after, state_after}

module _ (t : Table) (m : Memory) where
  pub lengths_are : {table place slot row capacity : Bool} → table ≡ table_agrees t → place ≡ places_agree m → slot ≡ slots_agree m → row ≡ rows_agree t m → capacity ≡ capacities_fit m
      → (table && eqb (length m.head) 2 && place && slot && row && capacity) ≡ lengths_fit t m
  unfolding lengths_fit
  lengths_are p q r s u = rw (p, q, r, s, u)

  pub agrees : lengths_fit t m ≡ true → table_agrees t ≡ true
  unfolding lengths_fit
  agrees e = and_left _ _ (and_left _ _ (and_left _ _ (and_left _ _ (and_left _ _ e))))

  pub open_is : (mode : ℕ) → open_after (lengths_fit t m) mode t ≡ open_verdict t m mode
  unfolding open_after table_after checked open_verdict
  open_is mode = go (lengths_fit t m) (mode_fits mode) agrees
    where
      go : (fits named : Bool) → (fits ≡ true → table_agrees t ≡ true) → (require (fits && named) BadLengths ▷ require (table_agrees t) BadLengths ▷ table_verdict t) ≡ (require (fits && named) BadLengths ▷ table_verdict t)
      go true true h = rw (h refl)
      go true false h = refl
      go false named h = refl

  pub list_is : (mode : ℕ) (cs : List ℕ) (o : Output) → list_after (outputs_agree o && lengths_fit t m) mode t (places m) cs ≡ dissolve_verdict t m mode cs o
  unfolding list_after open_after table_after checked open_verdict dissolve_verdict
  list_is mode cs o = go (outputs_agree o) (lengths_fit t m) (mode_fits mode) agrees
    where
      go : (agree fits named : Bool) → (fits ≡ true → table_agrees t ≡ true)
          → ((require ((agree && fits) && named) BadLengths ▷ require (table_agrees t) BadLengths ▷ table_verdict t) ▷ list_verdict (kept mode) (target_of t) (places m) cs)
          ≡ (require agree BadLengths ▷ (require (fits && named) BadLengths ▷ table_verdict t) ▷ list_verdict (kept mode) (target_of t) (places m) cs)
      go true true true h = rw (h refl)
      go true true false h = refl
      go true false named h = refl
      go false fits named h = refl

  pub state_is : (agree : Bool) → (table_after (agree && lengths_fit t m) t ▷ require (rules_kept t m) BrokenState) ≡ state_after agree t m
  unfolding table_after checked state_after state_verdict
  state_is agree = go agree (lengths_fit t m) agrees
    where
      go : (agree fits : Bool) → (fits ≡ true → table_agrees t ≡ true)
          → ((require (agree && fits) BadLengths ▷ require (table_agrees t) BadLengths ▷ table_verdict t) ▷ require (rules_kept t m) BrokenState)
          ≡ (require agree BadLengths ▷ require fits BadLengths ▷ table_verdict t ▷ require (rules_kept t m) BrokenState)
      go true true h = rw (h refl)
      go true false h = refl
      go false fits h = refl
