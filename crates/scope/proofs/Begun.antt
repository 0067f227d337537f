-- DEMAND 3 FROM ANY BYTES ON: a memory may hold anything, and any calls may have been made on it. From an accepted opening on, be it by open or
-- by a dissolve whose list checks pass, it shows the cells accepted since. Nothing else is asked: the opening has tested the table and the lengths.
--     Begins t m call     the call opens the memory anew; `dissolve_begins`: so does a dissolve that is carried out
--     begun_shown         what is left when such a call and any calls after it are made
--     run_begun           any calls, such a call, any calls; `begun_shows`: THE DEMAND
-- What holds of a shown state (ShownAfresh, Counts, WhateverOrder) holds of what they leave.
-- Assumes nothing.
use mathlib.Core.Path.{◌≡◌, refl, sym, subst}
use mathlib.Core.List.{List, [], ◌∷◌, ◌++◌}
use Prim.Native.Nat.{ℕ}
use Rattle.scope.specs.declared.Refusal.TheVariants.{BadLengths}
use Rattle.std.specs.Prelude.{Ok}
use Rattle.scope.specs.Answers.{require, if_accepted, verdict_of, Verdict}
use Rattle.scope.specs.Table.{Table}
use Rattle.scope.specs.Memory.{Memory, Output, opened, outputs_agree}
use Rattle.scope.specs.Calls.{open_verdict, opening, reading, dissolve_verdict, working, dissolving}
use Rattle.scope.specs.Demands.{Call, opens, offers, reads_out, dissolves, leaves, accepted, History, run, Shows}
use Rattle.scope.proofs.Verdicts.{first_accepts, second_accepts}
use Rattle.scope.proofs.TakingCells.{Shown}
use Rattle.scope.proofs.Run.{work_shown, run_shown}
use Rattle.scope.proofs.Dissolving.{open_shown, reading_accepted}

abbrev pub Begins : Table → Memory → Call → Type 0
Begins t m (opens mode) = open_verdict t m mode ≡ Ok tt
Begins t m (offers x) = ⊥
Begins t m (reads_out o) = ⊥
Begins t m (dissolves mode xs o) = dissolve_verdict t m mode xs o ≡ Ok tt

-- a dissolve that is carried out
pub dissolve_begins : (t : Table) (m : Memory) (mode : ℕ) (xs : List ℕ) (o : Output) → verdict_of (dissolving t m mode xs o).answer ≡ Ok tt
    → Begins t m (dissolves mode xs o)
unfolding dissolving
dissolve_begins t m mode xs o e = reading_accepted t m mode xs o (dissolve_verdict t m mode xs o) (working t m mode xs o) m e

call_begun : (t : Table) (m : Memory) (cs : List ℕ) (call : Call) → Begins t m call → Shown t (leaves t call m) (accepted t call m cs)
unfolding leaves accepted opening dissolving
call_begun t m cs (opens mode) e =
    subst (λ (v : Verdict). Shown t (if_accepted v (opened mode m) m) (if_accepted v [] cs)) (sym e) (open_shown t m mode e)
call_begun t m cs (offers x) e = absurd e
call_begun t m cs (reads_out o) e = absurd e
call_begun t m cs (dissolves mode xs o) e =
    let opening : open_verdict t m mode ≡ (Ok tt) = unfold dissolve_verdict in first_accepts _ _ (second_accepts (require (outputs_agree o) BadLengths) _ e) in
    subst (λ (v : Verdict). Shown t (reading v (working t m mode xs o) m o).left (if_accepted v (if_accepted (verdict_of (reading v (working t m mode xs o) m o).answer) xs []) cs))
    (sym e) (work_shown t m mode xs o (open_shown t m mode opening))

module _ (t : Table) where
  pub run_after : (before calls : List Call) (h : History) → run t (before ++ calls) h ≡ run t calls (run t before h)
  unfolding run
  run_after [] calls h = refl
  run_after (call ∷ before) calls h = run_after before calls _

  pub begun_shown : (call : Call) (calls : List Call) (h : History) → Begins t h.memory call
      → Shown t (run t (call ∷ calls) h).memory (run t (call ∷ calls) h).cells
  unfolding run
  begun_shown call calls h e = run_shown t calls _ (call_begun t h.memory h.cells call e)

  module _ (before : List Call) (call : Call) (calls : List Call) (h : History) (e : Begins t (run t before h).memory call) where
    pub run_begun : Shown t (run t (before ++ (call ∷ calls)) h).memory (run t (before ++ (call ∷ calls)) h).cells
    run_begun = subst (λ (k : History). Shown t k.memory k.cells) (sym (run_after before (call ∷ calls) h)) (begun_shown call calls (run t before h) e)

    -- THE DEMAND
    pub begun_shows : Shows t (run t (before ++ (call ∷ calls)) h).memory (run t (before ++ (call ∷ calls)) h).cells
    begun_shows = run_begun.shows
