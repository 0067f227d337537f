-- What stands after a feed is the same in all memories of full size that hold no cell, whatever else they hold.
--     after          what stands after an opening
--     stand_anew     that law: an opening clears the memory; where it is refused, so is read out, before it looks at the state
-- Assumes nothing.
use Prim.Native.Nat.{ℕ}
use mathlib.Core.Path.{◌≡◌, refl, sym, ◌∙◌, ap, ap₂}
use mathlib.Core.Bool.{Bool, true, false, ◌&&◌}
use mathlib.Core.List.{List, []}
use lib.ListN.{take}
use Rattle.scope.specs.declared.Refusal.{Refusal}
use Rattle.scope.specs.declared.Refusal.TheVariants.{BrokenState, BadLengths}
use Rattle.std.specs.Prelude.{Err, Ok}
use Rattle.scope.specs.Answers.{require, ◌▷◌, if_accepted, Verdict}
use Rattle.scope.specs.Table.{Table, table_verdict}
use Rattle.scope.specs.Memory.{Memory, Output, opened, held, held_cells, lengths_fit, outputs_agree}
use Rattle.scope.specs.Rules.{rules_kept}
use Rattle.scope.specs.Order.{view}
use Rattle.scope.specs.Bytes.{cleared}
use Rattle.scope.specs.Calls.{Outcome, outcome, open_verdict, opening, Reading, reading, read_from, output_fits, state_verdict, read_verdict, reading_out}
use Rattle.scope.proofs.Run.{refused_not, read_leaves}
use Rattle.taking.proofs.Sizes.{Sized, opened_same}
use Rattle.audit.specs.Feed.{verdicts, left_by, tally, feeding}
use Rattle.full_size.specs.Drawing.{Drawn, drawn, full_memory}
use Rattle.full_size.proofs.Anew.{same_lengths, Full, full_sized}
use Rattle.feed_audit.specs.Audit.{beginning, reading_fed, Standing, stood}

-- where an opening is refused, no state is looked at
unread : (o : Output) (a b : Bool) (v w w' x x' : Verdict) (d d' : Reading) (k k' : Memory) {why : Refusal} → (require (b && true) BadLengths ▷ v) ≡ Err why
    → drawn (reading (require a BadLengths ▷ ((require b BadLengths ▷ v ▷ w) ▷ x)) d k o) ≡ drawn (reading (require a BadLengths ▷ ((require b BadLengths ▷ v ▷ w') ▷ x')) d' k' o)
unread o false b v w w' x x' d d' k k' e = refl
unread o true false v w w' x x' d d' k k' e = refl
unread o true true (Ok done) w w' x x' d d' k k' e = refused_not (sym e)
unread o true true (Err why) w w' x x' d d' k k' e = refl

-- what stands after an opening
abbrev pub after : Table → List ℕ → Output → Outcome → Standing
after t xs o begun =
    let last = feeding t begun.left (if_accepted begun.answer xs []) in
    let read = reading_out t last.left o in
    record { opened = begun.answer; counts = last.counts; cells = held_cells read.left; answer = read.answer; out = read.out }

module _ (t : Table) (xs : List ℕ) (o : Output) {m₀ m : Memory} (s : Sized m₀ m) (z₀ : held m₀ ≡ 0) (z : held m ≡ 0) where
  same_opening : open_verdict t m 2 ≡ open_verdict t m₀ 2
  unfolding open_verdict
  same_opening = rw (same_lengths t s)

  refused_read : {why : Refusal} → open_verdict t m₀ 2 ≡ Err why → drawn (reading_out t m o) ≡ drawn (reading_out t m₀ o)
  unfolding open_verdict reading_out read_verdict state_verdict
  refused_read e = rw (same_lengths t s)
      (unread o (outputs_agree o) (lengths_fit t m₀) (table_verdict t) (require (rules_kept t m) BrokenState) (require (rules_kept t m₀) BrokenState) (require (output_fits (view t m) o) BadLengths)
      (require (output_fits (view t m₀) o) BadLengths) (read_from t m o) (read_from t m₀ o) m m₀ e)

  none_read : (k : Memory) → held k ≡ 0 → held_cells (reading_out t k o).left ≡ []
  none_read k none = ap (λ (l : Memory). held_cells l) (read_leaves t k o) ∙ ap (λ (n : ℕ). take n k.cells) none

  abbrev refused_with : Refusal → List ℕ → Drawn → Standing
  refused_with why cs d = record { opened = Err why; counts = tally []; cells = cs; answer = d.answer; out = d.out }

  by_verdict : (v : Verdict) → open_verdict t m₀ 2 ≡ v → after t xs o (outcome v (opened 2 m) m) ≡ after t xs o (outcome v (opened 2 m₀) m₀)
  unfolding feeding verdicts left_by
  by_verdict (Ok done) e = ap (λ (k : Memory). after t xs o (record { answer = Ok tt; left = k })) (opened_same 2 s)
  by_verdict (Err why) e = ap₂ (refused_with why) (none_read m z ∙ sym (none_read m₀ z₀)) (refused_read e)

  pub same_standing : stood (reading_fed t m xs o) ≡ stood (reading_fed t m₀ xs o)
  unfolding reading_fed beginning opening
  same_standing = ap (λ (v : Verdict). after t xs o (outcome v (opened 2 m) m)) same_opening ∙ by_verdict (open_verdict t m₀ 2) refl

full_empty : (t : Table) → held (full_memory t) ≡ 0
unfolding cleared
full_empty t = refl

pub stand_anew : (t : Table) (xs : List ℕ) (o : Output) (m : Memory) → Full t m → held m ≡ 0 → stood (reading_fed t m xs o) ≡ stood (reading_fed t (full_memory t) xs o)
stand_anew t xs o m f z = same_standing t xs o (full_sized t m f) (full_empty t) z
