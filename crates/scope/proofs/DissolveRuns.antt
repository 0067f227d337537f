-- DISSOLVE IN A RUN OF CALLS: in the memory of a standing state it counts as the calls it stands for.
--     open_left, offers_left, read_left     what the calls leave of memory and accepted cells
--     dissolve_counts                       carried out, it counts as open, then offers in list order, then read out
--     dissolve_opens, dissolve_nothing      refused, it counts as an opening where its list checks passed, else as nothing
-- Assumes nothing.
use mathlib.Core.Path.{◌≡◌, sym, ◌∙◌, ap}
use mathlib.Core.List.{List, [], ◌∷◌, ◌++◌, append-nil, append_assoc, map}
use Prim.Native.Nat.{ℕ}
use Rattle.scope.specs.declared.Refusal.{Refusal}
use Rattle.scope.specs.declared.Refusal.TheVariants.{BadLengths}
use Rattle.std.specs.Prelude.{Err, Ok}
use Rattle.scope.specs.Answers.{require, ◌▷◌, if_accepted, verdict_of, Verdict}
use Rattle.scope.specs.Table.{Table}
use Rattle.scope.specs.Memory.{Memory, Output, opened, outputs_agree}
use Rattle.scope.specs.Order.{view}
use Rattle.scope.specs.Pool.{taking}
use Rattle.scope.specs.Calls.{open_verdict, opening, offer_verdict, offering, Reading, read_from, reading, output_fits, offering_all, dissolve_verdict, working, dissolving}
use Rattle.scope.specs.Demands.{Call, opens, offers, reads_out, dissolves, leaves, accepted, History, run}
use Rattle.scope.proofs.Verdicts.{first_accepts, second_accepts}
use Rattle.scope.proofs.Run.{all_accept, all_none, read_leaves}
use Rattle.scope.proofs.Dissolving.{dissolve_calls, dissolve_is, reading_accepted}

module _ (t : Table) where
  pub open_left : (mode : ℕ) (calls : List Call) (h : History) → open_verdict t h.memory mode ≡ Ok tt
      → run t (opens mode ∷ calls) h ≡ run t calls (record { memory = opened mode h.memory; cells = [] })
  unfolding run leaves accepted opening
  open_left mode calls h e =
      ap (λ (v : Verdict). run t calls (record { memory = if_accepted v (opened mode h.memory) h.memory; cells = if_accepted v [] h.cells })) e

  offer_left : (x : ℕ) (calls : List Call) (m : Memory) (cs : List ℕ) → offer_verdict t m x ≡ Ok tt
      → run t (offers x ∷ calls) (record { memory = m; cells = cs }) ≡ run t calls (record { memory = taking t m x; cells = cs ++ (x ∷ []) })
  unfolding run leaves accepted offering
  offer_left x calls m cs e =
      ap (λ (v : Verdict). run t calls (record { memory = if_accepted v (taking t m x) m; cells = if_accepted v (cs ++ (x ∷ [])) cs })) e

  read_left : (o : Output) (m : Memory) (cs : List ℕ) → run t (reads_out o ∷ []) (record { memory = m; cells = cs }) ≡ record { memory = m; cells = cs }
  unfolding run leaves accepted
  read_left o m cs = rw (read_leaves t m o)

  offers_left : (xs : List ℕ) (calls : List Call) (m : Memory) (cs : List ℕ) → (offering_all t m xs).answer ≡ Ok tt
      → run t (map offers xs ++ calls) (record { memory = m; cells = cs }) ≡ run t calls (record { memory = (offering_all t m xs).left; cells = cs ++ xs })
  offers_left [] calls m cs e = rw (all_none t m, append-nil cs)
  offers_left (x ∷ xs) calls m cs e =
      let q = all_accept t m x xs e in
      offer_left x (map offers xs ++ calls) m cs q.0 ∙ offers_left xs calls (taking t m x) (cs ++ (x ∷ [])) q.1
      ∙ rw (q.2, ← append_assoc cs (x ∷ []) xs)

  module _ (mode : ℕ) (xs : List ℕ) (o : Output) (m : Memory) (e : verdict_of (dissolving t m mode xs o).answer ≡ Ok tt) where
    dissolve_leaves : leaves t (dissolves mode xs o) m ≡ (offering_all t (opened mode m) xs).left
    unfolding leaves
    dissolve_leaves =
        let q = dissolve_calls t m mode xs o e in
        ap (λ (r : Reading). r.left) (dissolve_is t m mode xs o q.0 q.1 q.2) ∙ read_leaves t (offering_all t (opened mode m) xs).left o

    dissolve_accepts : (cs : List ℕ) → accepted t (dissolves mode xs o) m cs ≡ xs
    unfolding accepted
    dissolve_accepts cs = rw (reading_accepted t m mode xs o (dissolve_verdict t m mode xs o) (working t m mode xs o) m (unfold dissolving in e), e)

  dissolve_left : (mode : ℕ) (xs : List ℕ) (o : Output) (h : History) → verdict_of (dissolving t h.memory mode xs o).answer ≡ Ok tt
      → run t (dissolves mode xs o ∷ []) h ≡ record { memory = (offering_all t (opened mode h.memory) xs).left; cells = xs }
  unfolding run
  dissolve_left mode xs o h e =
      let m = h.memory in
      λ i. record { memory = dissolve_leaves mode xs o m e i; cells = dissolve_accepts mode xs o m e h.cells i }

  -- DISSOLVE COUNTS AS ITS CALLS
  pub dissolve_counts : (mode : ℕ) (xs : List ℕ) (o : Output) (h : History) → verdict_of (dissolving t h.memory mode xs o).answer ≡ Ok tt
      → run t (dissolves mode xs o ∷ []) h ≡ run t (opens mode ∷ (map offers xs ++ (reads_out o ∷ []))) h
  dissolve_counts mode xs o h e =
      let m = h.memory in
      let q = dissolve_calls t m mode xs o e in
      dissolve_left mode xs o h e ∙ sym (open_left mode (map offers xs ++ (reads_out o ∷ [])) h q.0
      ∙ offers_left xs (reads_out o ∷ []) (opened mode m) [] q.1 ∙ read_left o (offering_all t (opened mode m) xs).left xs)

  -- refused by 5, 6, 7 or by a short output: an opening
  pub dissolve_opens : (mode : ℕ) (xs : List ℕ) (o : Output) (h : History) (why : Refusal) → dissolve_verdict t h.memory mode xs o ≡ Ok tt
      → ((offering_all t (opened mode h.memory) xs).answer ▷ require (output_fits (view t (offering_all t (opened mode h.memory) xs).left) o) BadLengths) ≡ Err why
      → run t (dissolves mode xs o ∷ []) h ≡ run t (opens mode ∷ []) h
  unfolding run leaves accepted dissolving working verdict_of
  dissolve_opens mode xs o h why e r =
      let m = h.memory in
      let done = offering_all t (opened mode m) xs in
      let opening : open_verdict t m mode ≡ (Ok tt) = unfold dissolve_verdict in first_accepts _ _ (second_accepts (require (outputs_agree o) BadLengths) _ e) in
      ap (λ (v : Verdict). record {
        memory = (reading v (working t m mode xs o) m o).left;
        cells = if_accepted v (if_accepted (verdict_of (reading v (working t m mode xs o) m o).answer) xs []) h.cells;
      }) e
      ∙ ap (λ (v : Verdict). record {
        memory = (reading v (read_from t done.left o) (opened mode m) o).left;
        cells = if_accepted (verdict_of (reading v (read_from t done.left o) (opened mode m) o).answer) xs [];
      }) r
      ∙ sym (open_left mode [] h opening)

  -- refused by its checks: nothing
  pub dissolve_nothing : (mode : ℕ) (xs : List ℕ) (o : Output) (h : History) (why : Refusal)
      → dissolve_verdict t h.memory mode xs o ≡ Err why → run t (dissolves mode xs o ∷ []) h ≡ h
  unfolding run leaves accepted dissolving
  dissolve_nothing mode xs o h why e =
      let m = h.memory in
      ap (λ (v : Verdict). record {
        memory = (reading v (working t m mode xs o) m o).left;
        cells = if_accepted v (if_accepted (verdict_of (reading v (working t m mode xs o) m o).answer) xs []) h.cells;
      }) e
