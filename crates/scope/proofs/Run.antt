-- DEMAND 3: after any run of calls from a newly opened memory the state keeps the rules and shows the cells accepted since it was last opened:
-- its rows, links and groups are those of the definition. Dissolve in the same memory counts as the calls it stands for.
--     opened_shown      an opening begins anew
--     all_shown         offers in a row that are all accepted
--     read_leaves       read out leaves the state
--     call_shown        each call keeps it; `run_shown`: so does a run
--     run_shows         THE DEMAND, from a memory whose lengths fit and a table that passes 1; `run_rules`, `run_lengths`: it
--                       never meets 9, nor 10 by its lengths
-- Assumes nothing.
use mathlib.Core.Path.{◌≡◌, refl}
use mathlib.Core.Bool.{Bool, true, false, cond}
use mathlib.Core.List.Memᴰ
use mathlib.Core.List.{List, [], ◌∷◌, ◌++◌, append-nil, append_assoc}
use Prim.Native.Nat.{ℕ}
use native.Mathlib.Omega.{arith}
use lib.Dec.{eqb}
use lib.ListN.{length}
use Rattle.scope.specs.declared.Refusal.{Refusal}
use Rattle.scope.specs.declared.Refusal.TheVariants.{BadLengths}
use Rattle.std.specs.Prelude.{Err, Ok}
use Rattle.scope.specs.declared.ReadOut.TheVariants.{Nothing, Closed, Outline}
use Rattle.scope.specs.Lists.{head_or}
use Rattle.scope.specs.Answers.{require, ◌▷◌, if_accepted, verdict_of, Answer, Verdict}
use Rattle.scope.specs.Table.{Table, table_verdict}
use Rattle.scope.specs.Memory.{Memory, Output, opened, lengths_fit}
use Rattle.scope.specs.Rules.{rules_kept}
use Rattle.scope.specs.Order.{View, view, lowest_rows, area_at, ordered, polygon_count, read_answer}
use Rattle.scope.specs.Pool.{taking}
use Rattle.scope.specs.Calls.{Outcome, open_verdict, opening, outcome, offer_verdict, offering, read_from, reading, read_verdict, reading_out, output_fits, offering_all, dissolve_verdict, working, dissolving}
use Rattle.scope.specs.Demands.{Call, opens, offers, reads_out, dissolves, leaves, accepted, History, run, Shows}
use Rattle.scope.proofs.Verdicts.{first_accepts}
use Rattle.scope.proofs.Lengths.{Lengths, lengths_good, lengths_kept}
use Rattle.scope.proofs.RulesKept.{rules_kept_lem}
use Rattle.scope.proofs.Sound.{sound_reverses, offered}
use Rattle.scope.proofs.Opened.{opened_sound, opened_shows}
use Rattle.scope.proofs.TakingCells.{Shown}
use Rattle.scope.proofs.TakingShows.{taken_shown}

pub opened_shown : (t : Table) (m : Memory) (mode : ℕ) → table_verdict t ≡ Ok tt → Lengths t m → Shown t (opened mode m) []
opened_shown t m mode e l = record {
  sound = opened_sound t m mode e l;
  proper = record {
    reverses = sound_reverses (opened_sound t m mode e l);
    distinct = tt;
    in_table = λ x a i. absurd (Memᴰ.not-nil i);
    once = λ x i. absurd (Memᴰ.not-nil i);
    apart = λ x y a i. absurd (Memᴰ.not-nil i);
  };
  shows = opened_shows t m mode;
}

pub refused_not : {why : Refusal} {A : Type 0} → ◌≡◌ {A = Verdict} (Err why) (Ok tt) → A
refused_not e = let z : ◌≡◌ {A = ℕ} 0 1 = cc in absurd (omega arith)

module _ (t : Table) where
  -- a call that is carried out or refused
  decided : (v : Verdict) {m₁ m₂ : Memory} {cs₁ cs₂ : List ℕ} → (v ≡ Ok tt → Shown t m₁ cs₁) → Shown t m₂ cs₂
      → Shown t (if_accepted v m₁ m₂) (if_accepted v cs₁ cs₂)
  decided (Ok _) done kept = done refl
  decided (Err why) done kept = kept

  -- ---- offers

  pub offer_shown : (m : Memory) (cs : List ℕ) (x : ℕ) → Shown t m cs → Shown t (offering t m x).left (if_accepted (offering t m x).answer (cs ++ (x ∷ [])) cs)
  unfolding offering
  offer_shown m cs x S = decided (offer_verdict t m x) (λ e. taken_shown S (offered t m x e)) S

  -- offers in a row that are all accepted: the first, and the rest from where it leaves
  pub all_accept : (m : Memory) (x : ℕ) (xs : List ℕ) → (offering_all t m (x ∷ xs)).answer ≡ Ok tt
      → (offer_verdict t m x ≡ Ok tt) × ((offering_all t (taking t m x) xs).answer ≡ Ok tt)
      × ((offering_all t m (x ∷ xs)).left ≡ (offering_all t (taking t m x) xs).left)
  unfolding offering_all offering
  all_accept m x xs e = go (offer_verdict t m x) e
    where
      go : (v : Verdict) → (if_accepted v (offering_all t (if_accepted v (taking t m x) m) xs) (outcome v (taking t m x) m)).answer ≡ Ok tt
          → (v ≡ Ok tt) × ((offering_all t (taking t m x) xs).answer ≡ Ok tt)
          × ((if_accepted v (offering_all t (if_accepted v (taking t m x) m) xs) (outcome v (taking t m x) m)).left ≡ (offering_all t (taking t m x) xs).left)
      go (Ok _) e = (refl, e, refl)
      go (Err why) e = refused_not e

  pub all_none : (m : Memory) → (offering_all t m []).left ≡ m
  unfolding offering_all
  all_none m = refl

  pub all_shown : (m : Memory) (cs xs : List ℕ) → Shown t m cs → (offering_all t m xs).answer ≡ Ok tt → Shown t (offering_all t m xs).left (cs ++ xs)
  all_shown m cs [] S e = rw (all_none m, append-nil cs) S
  all_shown m cs (x ∷ xs) S e =
      let q = all_accept m x xs e in
      rw (q.2, ← append_assoc cs (x ∷ []) xs) (all_shown (taking t m x) (cs ++ (x ∷ [])) xs (taken_shown S (offered t m x q.0)) q.1)

  -- ---- read out and dissolve

  pub read_leaves : (m : Memory) (o : Output) → (reading_out t m o).left ≡ m
  unfolding reading_out
  read_leaves m o = go (read_verdict t m o)
    where
      go : (v : Verdict) → (reading v (read_from t m o) m o).left ≡ m
      go (Ok _) = refl
      go (Err why) = refl

  -- what is read out is no refusal
  pub read_accepts : (v : View) → verdict_of (read_answer v) ≡ Ok tt
  unfolding verdict_of read_answer
  read_accepts v = go (eqb v.held 0) (eqb (length (lowest_rows v)) 0) (Ok (Outline (polygon_count v) (length (lowest_rows v)) (area_at v (head_or 0 (ordered v))))) refl
    where
      go : (b c : Bool) (some : Answer) → verdict_of some ≡ Ok tt → verdict_of (cond b (Ok Nothing) (cond c (Ok Closed) some)) ≡ Ok tt
      go true c some e = refl
      go false true some e = refl
      go false false some e = e

  -- dissolve, after its list checks
  pub work_shown : (m : Memory) (mode : ℕ) (xs : List ℕ) (o : Output) → Shown t (opened mode m) []
      → Shown t (working t m mode xs o).left (if_accepted (verdict_of (working t m mode xs o).answer) xs [])
  unfolding working
  work_shown m mode xs o S = go (last.answer ▷ require (output_fits (view t last.left) o) BadLengths) refl
    where
      last : Outcome
      last = offering_all t (opened mode m) xs

      go : (v : Verdict) → (last.answer ▷ require (output_fits (view t last.left) o) BadLengths) ≡ v
          → Shown t (reading v (read_from t last.left o) (opened mode m) o).left (if_accepted (verdict_of (reading v (read_from t last.left o) (opened mode m) o).answer) xs [])
      go (Ok _) e = rw (read_accepts (view t last.left)) (all_shown (opened mode m) [] xs S (first_accepts _ _ e))
      go (Err why) e = unfold verdict_of in S

  pub call_shown : (call : Call) (m : Memory) (cs : List ℕ) → Shown t m cs → Shown t (leaves t call m) (accepted t call m cs)
  unfolding leaves accepted
  call_shown (opens mode) m cs S = unfold opening in decided (open_verdict t m mode) (λ e. opened_shown t m mode S.sound.table S.sound.lengths) S
  call_shown (offers x) m cs S = offer_shown m cs x S
  call_shown (reads_out o) m cs S = rw (read_leaves m o) S
  call_shown (dissolves mode xs o) m cs S = unfold dissolving in go (dissolve_verdict t m mode xs o)
    where
      go : (v : Verdict) → Shown t (reading v (working t m mode xs o) m o).left (if_accepted v (if_accepted (verdict_of (reading v (working t m mode xs o) m o).answer) xs []) cs)
      go (Ok _) = work_shown m mode xs o (opened_shown t m mode S.sound.table S.sound.lengths)
      go (Err why) = S

  pub run_shown : (calls : List Call) (h : History) → Shown t h.memory h.cells → Shown t (run t calls h).memory (run t calls h).cells
  unfolding run
  run_shown [] h S = S
  run_shown (call ∷ calls) h S = run_shown calls _ (call_shown call h.memory h.cells S)

-- A run of calls in a memory that is opened first.
abbrev pub ran : Table → ℕ → Memory → List Call → History
ran t mode m calls = run t calls (record { memory = opened mode m; cells = [] })

module _ (t : Table) (m : Memory) (mode : ℕ) (calls : List Call) (checked : table_verdict t ≡ Ok tt) (fits : lengths_fit t m ≡ true) where
  pub ran_shown : Shown t (ran t mode m calls).memory (ran t mode m calls).cells
  ran_shown = run_shown t calls (record { memory = opened mode m; cells = [] }) (opened_shown t m mode checked (lengths_good t m fits))

  -- THE DEMAND
  pub run_shows : Shows t (ran t mode m calls).memory (ran t mode m calls).cells
  run_shows = ran_shown.shows

  pub run_rules : rules_kept t (ran t mode m calls).memory ≡ true
  run_rules = rules_kept_lem t (ran t mode m calls).memory ran_shown.sound.rules

  pub run_lengths : lengths_fit t (ran t mode m calls).memory ≡ true
  run_lengths = lengths_kept t (ran t mode m calls).memory ran_shown.sound.lengths
