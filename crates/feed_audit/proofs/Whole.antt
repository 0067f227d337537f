-- A whole audit from its parts, call by call.
--     fed_read_is     opened, the feed offered, and read out
--     stand_is        in memory of full size, with the held cells copied
--     compared_is     dissolved afresh, and compared
--     audit_is        the whole
-- Assumes nothing.
use Prim.Native.Nat.{ℕ, ◌≤◌}
use mathlib.Core.Path.{◌≡◌, sym, ◌∙◌, ap, ap₂}
use mathlib.Core.Bool.{Bool, ◌&&◌}
use mathlib.Core.List.{List, []}
use lib.ListN.{length, take}
use lib.Seq.{paste, length-take-le}
use Rattle.scope.specs.Lists.{at}
use Rattle.scope.specs.Answers.{if_accepted, Answer, Verdict}
use Rattle.scope.specs.Table.{Table}
use Rattle.scope.specs.Memory.{Memory, Output}
use Rattle.scope.specs.Calls.{Outcome, opening, Reading, reading_out}
use Rattle.audit.specs.Feed.{Fed, feeding}
use Rattle.audit.specs.Same.{same_answer, same_output}
use Rattle.full_size.specs.Drawing.{Drawn, drawing, full_memory}
use Rattle.feed_audit.specs.Audit.{beginning, FedRead, reading_fed, Standing, stood, standing, Compared, comparing, Audit, auditing}
use Rattle.feed_audit.proofs.Held.{held_copied}

-- ---- opened, the feed offered, and read out

module _ (t : Table) (m : Memory) (xs : List ℕ) (o : Output) where
  abbrev read_by : Verdict → Fed → Reading → FedRead
  read_by opened fed read = record { opened = opened; counts = fed.counts; answer = read.answer; left = read.left; out = read.out }

  abbrev read_after : Outcome → FedRead
  read_after begun =
      let fed = feeding t begun.left (if_accepted begun.answer xs []) in
      read_by begun.answer fed (reading_out t fed.left o)

  pub fed_read_is : {begun : Outcome} {cells : List ℕ} {fed : Fed} {read : Reading} → begun ≡ opening t m 2 → cells ≡ if_accepted begun.answer xs []
      → fed ≡ feeding t begun.left cells → read ≡ reading_out t fed.left o → read_by begun.answer fed read ≡ reading_fed t m xs o
  unfolding reading_fed beginning
  fed_read_is {begun} {cells} {fed} b c f r =
      ap (read_by begun.answer fed) r
      ∙ ap (λ (k : Fed). read_by begun.answer k (reading_out t k.left o)) (f ∙ ap (feeding t begun.left) c)
      ∙ ap read_after b

-- ---- in memory of full size, with the held cells copied

module _ (t : Table) (xs : List ℕ) (o : Output) where
  abbrev stand_by : FedRead → List ℕ → Standing
  stand_by r cs = record { opened = r.opened; counts = r.counts; cells = cs; answer = r.answer; out = r.out }

  pub stand_is : {m : Memory} {r : FedRead} (list : List ℕ) {n : ℕ} {list' : List ℕ} → m ≡ full_memory t → r ≡ reading_fed t m xs o
      → 16384 ≡ length list → length r.left.cells ≡ 16384
      → n ≡ length (take (length list) (take (at r.left.head 1) r.left.cells)) → list' ≡ paste list 0 r.left.cells n → stand_by r (take n list') ≡ standing t xs o
  unfolding standing
  stand_is {r = r} list f e a b c d =
      ap (stand_by r) (held_copied (at r.left.head 1) r.left.cells list a b c d) ∙ ap (λ (k : FedRead). stood k) e
      ∙ ap (λ (k : Memory). stood (reading_fed t k xs o)) f

-- ---- dissolved afresh

module _ (t : Table) (cs : List ℕ) (r : Answer) (o p : Output) where
  abbrev compared_by : Drawn → Compared
  compared_by again = record { same = same_answer r again.answer && same_output o again.out; anew = again.out }

  abbrev compared_from : Output → Bool → Bool → Compared
  compared_from q a b = record { same = a && b; anew = q }

  pub compared_is : {again : Drawn} {a b : Bool} → again ≡ drawing t 2 cs p → a ≡ same_answer r again.answer → b ≡ same_output o again.out
      → compared_from again.out a b ≡ comparing t cs r o p
  unfolding comparing
  compared_is {again} d x y = ap₂ (compared_from again.out) x y ∙ ap compared_by d

-- ---- the whole

module _ (t : Table) (xs : List ℕ) (o p : Output) where
  abbrev audit_by : Standing → ℕ → Compared → Audit
  audit_by s visits compared = record {
    opened = s.opened;
    counts = s.counts;
    visits = visits;
    answer = s.answer;
    same = compared.same;
    out = s.out;
    anew = compared.anew;
  }

  abbrev after_standing : Standing → Audit
  after_standing s = audit_by s (length s.cells) (comparing t s.cells s.answer s.out p)

  -- the cells are the first n of a list
  pub audit_is : {s : Standing} {n : ℕ} {compared : Compared} (list : List ℕ) → s ≡ standing t xs o → s.cells ≡ take n list → n ≤ length list
      → compared ≡ comparing t s.cells s.answer s.out p → audit_by s n compared ≡ auditing t xs o p
  unfolding auditing
  audit_is {s} {n} {compared} list e f h c =
      ap (λ (k : ℕ). audit_by s k compared) (sym (length-take-le n list h) ∙ ap length (sym f))
      ∙ ap (audit_by s (length s.cells)) c ∙ ap after_standing e
