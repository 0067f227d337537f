-- Dissolve: refused by its list checks, or its work.
-- Assumes nothing.
use mathlib.Core.Path.{◌≡◌, sym, ◌∙◌, ap}
use mathlib.Core.Bool.{Bool, ◌&&◌}
use mathlib.Core.List.{List, ◌++◌}
use Prim.Native.Nat.{ℕ}
use Rattle.scope.specs.declared.Refusal.TheVariants.{BadLengths}
use Rattle.std.specs.Prelude.{Ok, Err}
use Rattle.scope.specs.declared.Refusal.{Refusal}
use Rattle.scope.specs.Answers.{require, Verdict}
use Rattle.scope.specs.Table.{Table, target_of}
use Rattle.scope.specs.CellLists.{list_verdict}
use Rattle.scope.specs.Memory.{Memory, Output, held_cells, kept_mode, places, opened, lengths_fit, mode_fits, outputs_agree}
use Rattle.scope.specs.Calls.{Reading, reading, open_verdict, dissolve_verdict, working, dissolving}
use Rattle.scope.proofs.Tests.{and_left}
use Rattle.scope.proofs.Verdicts.{first_accepts, second_accepts, require_holds}
use Rattle.scope.proofs.Lengths.{Lengths, lengths_good}
use Rattle.scope.proofs.Opened.{opened_sound, zeros_length}
use Rattle.admission.specs.Admits.{list_after}
use Rattle.admission.proofs.Fitting.{list_is}
use Rattle.dissolving.specs.Work.{WorkAsks}

module _ (t : Table) (m : Memory) (mode : ℕ) (cs : List ℕ) (o : Output) {agree fits : Bool} {n : ℕ} {v : Verdict}
    (a : agree ≡ outputs_agree o) (f : fits ≡ lengths_fit t m) (p : n ≡ places m) (q : v ≡ list_after (agree && fits) mode t n cs) where
  tested : v ≡ dissolve_verdict t m mode cs o
  tested = q ∙ rw (a, f, p) (list_is t m mode cs o)

  module _ (e : v ≡ Ok tt) where
    abbrev outputs : Verdict
    outputs = require (outputs_agree o) BadLengths

    abbrev sizes : Verdict
    sizes = require (lengths_fit t m && mode_fits mode) BadLengths

    passed : dissolve_verdict t m mode cs o ≡ Ok tt
    passed = sym tested ∙ e

    opens : open_verdict t m mode ≡ Ok tt
    unfolding dissolve_verdict
    opens = first_accepts (open_verdict t m mode) _ (second_accepts outputs _ passed)

    lengths : Lengths t m
    unfolding open_verdict
    lengths = lengths_good t m (and_left (lengths_fit t m) _ (require_holds _ BadLengths (first_accepts sizes _ opens)))

    list_opened : list_verdict (kept_mode (opened mode m)) (target_of t) (places (opened mode m)) (held_cells (opened mode m) ++ cs) ≡ Ok tt
    unfolding opened dissolve_verdict
    list_opened = rw (zeros_length m.cells) (second_accepts (open_verdict t m mode) _ (second_accepts outputs _ passed))

    pub work_asks : WorkAsks t m mode cs o
    unfolding dissolve_verdict open_verdict
    work_asks = record {
      fill = record {
        head_two = lengths.head;
        list = record { sound = opened_sound t m mode (second_accepts sizes _ opens) lengths; list = list_opened };
      };
      agree = require_holds (outputs_agree o) BadLengths (first_accepts outputs _ passed);
    }

    pub dissolved : {r : Reading} → r ≡ working t m mode cs o → r ≡ dissolving t m mode cs o
    unfolding dissolving
    dissolved p = p ∙ sym (ap (λ (w : Verdict). reading w (working t m mode cs o) m o) passed)

  pub not_dissolved : {why : Refusal} → v ≡ Err why → record { answer = Err why; left = m; out = o } ≡ dissolving t m mode cs o
  unfolding dissolving
  not_dissolved e = ap (λ (w : Verdict). reading w (working t m mode cs o) m o) (sym e ∙ tested)
