-- DEMAND 2, WHAT IS WRITTEN: what dissolve and read out answer and write is what is drawn afresh from the accepted cells (Drawn): their rings, each
-- from its lowest row and in its group, in the order of the ring list, and in the edge list the rows that stand.
--     read_writes          read out, of a state that shows its cells
--     run_writes           so it is after any run of calls
--     dissolve_writes      and of dissolve, in any memory, for the cells of its list; `dissolve_answers`: its counts
--     run_edges, dissolve_edges     the edge list of both: exactly the rows that stand, each once
-- Assumes nothing.
use Prim.Native.Nat.{ℕ}
use mathlib.Core.Path.{◌≡◌, sym, ◌∙◌, ap}
use mathlib.Core.Bool.{true}
use mathlib.Core.Logic.{◌↔◌}
use mathlib.Core.List.{List, Memᴰ}
use lib.ListN.{length}
use Rattle.std.specs.Prelude.{Ok}
use Rattle.scope.specs.Answers.{verdict_of, polygons_of, rings_of, Verdict}
use Rattle.scope.specs.Table.{Table, table_verdict}
use Rattle.scope.specs.Standing.{StandsIn}
use Rattle.scope.specs.Afresh.{rings}
use Rattle.scope.specs.Memory.{Memory, Output, opened, lengths_fit}
use Rattle.scope.specs.Order.{view, read_answer}
use Rattle.scope.specs.Calls.{Reading, read_from, reading, read_verdict, reading_out, offering_all, dissolving}
use Rattle.scope.specs.Demands.{Call}
use Rattle.scope.proofs.Members.{Fresh}
use Rattle.scope.proofs.TakingCells.{Shown}
use Rattle.scope.proofs.Counts.{polygons, shown_counts}
use Rattle.scope.proofs.Run.{ran, ran_shown}
use Rattle.scope.proofs.Dissolving.{last_shown, dissolve_is, dissolve_calls}
use Rattle.scope.proofs.Drawn.{drawn_rings, laid, drawn_answer, drawn_output}
use Rattle.scope.proofs.DrawnRows.{drawn_standing, drawn_once}
use Rattle.scope.proofs.ShownDrawn.{shown_written, shown_answer}

-- what is drawn afresh from a list of cells, and the memory left
abbrev pub drawn_reading : Table → List ℕ → Memory → Output → Reading
drawn_reading t cs m o = record { answer = drawn_answer t cs; left = m; out = drawn_output t cs o }

-- READ OUT
pub read_writes : {t : Table} {m : Memory} {cs : List ℕ} → Shown t m cs → (o : Output) → read_verdict t m o ≡ Ok tt → reading_out t m o ≡ drawn_reading t cs m o
unfolding reading_out
read_writes {t} {m} {cs} S o e =
    ap (λ (w : Verdict). reading w (read_from t m o) m o) e ∙ (λ i. record { answer = shown_answer S i; left = m; out = shown_written S o i })

-- exactly the rows that stand, each once
abbrev pub HoldsStanding : Table → List ℕ → List ℕ → Type 0
HoldsStanding t cs l = Fresh l × ((a : ℕ) → Memᴰ a l ↔ StandsIn t cs a)

shown_edges : {t : Table} {m : Memory} {cs : List ℕ} → Shown t m cs → HoldsStanding t cs (laid (drawn_rings t cs))
shown_edges S = (drawn_once S.proper, drawn_standing S.proper)

module _ (t : Table) (m : Memory) (mode : ℕ) (calls : List Call) (checked : table_verdict t ≡ Ok tt) (fits : lengths_fit t m ≡ true) where
  -- AFTER ANY RUN OF CALLS
  pub run_writes : (o : Output) → read_verdict t (ran t mode m calls).memory o ≡ Ok tt
      → reading_out t (ran t mode m calls).memory o ≡ drawn_reading t (ran t mode m calls).cells (ran t mode m calls).memory o
  run_writes = read_writes (ran_shown t m mode calls checked fits)

  pub run_edges : HoldsStanding t (ran t mode m calls).cells (laid (drawn_rings t (ran t mode m calls).cells))
  run_edges = shown_edges (ran_shown t m mode calls checked fits)

-- DISSOLVE
module _ (t : Table) (m : Memory) (mode : ℕ) (xs : List ℕ) (o : Output) (done : verdict_of (dissolving t m mode xs o).answer ≡ Ok tt) where
  abbrev last : Memory
  last = (offering_all t (opened mode m) xs).left

  last_shows : Shown t (offering_all t (opened mode m) xs).left xs
  last_shows = let c = dissolve_calls t m mode xs o done in last_shown t m mode c.0 xs c.1

  pub dissolve_writes : dissolving t m mode xs o ≡ drawn_reading t xs (offering_all t (opened mode m) xs).left o
  dissolve_writes =
      let c = dissolve_calls t m mode xs o done in
      dissolve_is t m mode xs o c.0 c.1 c.2 ∙ read_writes last_shows o c.2

  pub dissolve_answers : (polygons_of (dissolving t m mode xs o).answer ≡ length (polygons t xs)) × (rings_of (dissolving t m mode xs o).answer ≡ length (rings t xs))
  dissolve_answers =
      let a : (dissolving t m mode xs o).answer ≡ read_answer (view t last) = ap (λ (r : Reading). r.answer) dissolve_writes ∙ sym (shown_answer last_shows) in
      let c = shown_counts last_shows in
      (ap polygons_of a ∙ c.0, ap rings_of a ∙ c.1)

  pub dissolve_edges : HoldsStanding t xs (laid (drawn_rings t xs))
  dissolve_edges = shown_edges last_shows
