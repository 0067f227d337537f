-- The end of dissolve's work, and the work as a whole.
--     finished, finished_anew     read out, or refused and the state opened anew
--     list_asks, filled           the newly opened state takes the list
--     finish_asks, worked         both halves
-- Assumes nothing.
use mathlib.Core.Path.{◌≡◌, refl, sym, ◌∙◌, ap, subst}
use mathlib.Core.Bool.{Bool, true, false, cond}
use mathlib.Core.List.{List}
use Prim.Native.Nat.{ℕ}
use lib.Dec.{eqb}
use lib.Ieee.{Float}
use lib.ListN.{length}
use Rattle.scope.specs.declared.Refusal.TheVariants.{BadLengths}
use Rattle.std.specs.Prelude.{Err, Ok}
use Rattle.scope.specs.declared.ReadOut.TheVariants.{Nothing, Closed, Outline}
use Rattle.std.specs.Result.{is_err}
use Rattle.scope.specs.Lists.{head_or}
use Rattle.scope.specs.Answers.{require, ◌▷◌, is_accepted, verdict_of, Answer, Verdict}
use Rattle.scope.specs.Table.{Table}
use Rattle.scope.specs.Memory.{Memory, Output, opened}
use Rattle.scope.specs.Order.{View, view, lowest_rows, ordered, polygon_count, area_at, read_answer}
use Rattle.scope.specs.Calls.{Outcome, Reading, reading, read_from, output_fits, working}
use Rattle.scope.proofs.Tests.{clash}
use Rattle.taking.specs.Taking.{ListAsks, TakesAll}
use Rattle.taking.proofs.Sizes.{Sized, opened_same}
use Rattle.reading.specs.Reading.{reading_if}
use Rattle.reading.proofs.Readings.{read_asks}
use Rattle.dissolving.specs.Work.{FillAsks, finishing, FinishAsks, WorkAsks}

-- ---- a reading that is refused, or is not

never_refused : (v : View) → is_accepted (verdict_of (read_answer v)) ≡ true
unfolding read_answer verdict_of
never_refused v = go (eqb v.held 0) (eqb (length (lowest_rows v)) 0) (polygon_count v) (length (lowest_rows v)) (area_at v (head_or 0 (ordered v)))
  where
    go : (a b : Bool) (polygons rings : ℕ) (area : Float) → is_accepted (verdict_of (cond a (Ok Nothing) (cond b (Ok Closed) (Ok (Outline polygons rings area))))) ≡ true
    go true b polygons rings area = refl
    go false true polygons rings area = refl
    go false false polygons rings area = refl

not_refused : (w : Verdict) (done : Reading) (m n : Memory) (o : Output) → is_accepted (verdict_of (reading w done m o).answer) ≡ true → reading w done m o ≡ reading w done n o
unfolding verdict_of
not_refused (Ok _) done m n o e = refl
not_refused (Err why) done m n o e = cc

refused_anew : (w : Verdict) (done : Reading) (m n : Memory) (o : Output) → is_accepted (verdict_of done.answer) ≡ true → is_accepted (verdict_of (reading w done m o).answer) ≡ false
    → record { answer = (reading w done m o).answer; left = n; out = (reading w done m o).out } ≡ reading w done n o
unfolding verdict_of
refused_anew (Ok _) done m n o d e = absurd (clash d e)
refused_anew (Err why) done m n o d e = refl

-- a refusal is an error, and an answer none
refused_is : (a : Answer) → is_err a ≡ true → is_accepted (verdict_of a) ≡ false
unfolding verdict_of
refused_is (Ok done) e = cc
refused_is (Err why) e = refl

answered_is : (a : Answer) → is_err a ≡ false → is_accepted (verdict_of a) ≡ true
unfolding verdict_of
answered_is (Ok done) e = refl
answered_is (Err why) e = cc

-- reading out leaves the state as it was
leaves : (w : Verdict) (t : Table) (m : Memory) (o : Output) → (reading w (read_from t m o) m o).left ≡ m
leaves (Ok done) t m o = refl
leaves (Err why) t m o = refl

-- ---- the end

module _ (v : Verdict) (t : Table) (mode : ℕ) (m : Memory) (o : Output) where
  abbrev end : Verdict
  end = v ▷ require (output_fits (view t m) o) BadLengths

  abbrev done : Reading
  done = read_from t m o

  module _ {a : Answer} {m₁ : Memory} {o₁ : Output} (R : record { answer = a; left = m₁; out = o₁ } ≡ reading_if v t m o) where
    as_read : record { answer = a; left = m₁; out = o₁ } ≡ reading end done m o
    unfolding reading_if
    as_read = R

    answer_is : a ≡ (reading end done m o).answer
    answer_is = ap (λ (r : Reading). r.answer) as_read

    pub finished : is_err a ≡ false → record { answer = a; left = m₁; out = o₁ } ≡ finishing v t mode m o
    unfolding finishing
    finished e = as_read ∙ not_refused end done m (opened mode m) o (ap (λ (r : Answer). is_accepted (verdict_of r)) (sym answer_is) ∙ answered_is a e)

    pub finished_anew : is_err a ≡ true → {m₂ : Memory} → m₂ ≡ opened mode m₁ → record { answer = a; left = m₂; out = o₁ } ≡ finishing v t mode m o
    unfolding finishing
    finished_anew e {m₂} p =
        let out_is : o₁ ≡ (reading end done m o).out = ap (λ (r : Reading). r.out) as_read in
        let left_is : m₁ ≡ m = ap (λ (r : Reading). r.left) as_read ∙ leaves end t m o in
        let anew : m₂ ≡ opened mode m = p ∙ ap (opened mode) left_is in
        rw (answer_is, out_is, anew)
        (refused_anew end done m (opened mode m) o (never_refused (view t m)) (ap (λ (r : Answer). is_accepted (verdict_of r)) (sym answer_is) ∙ refused_is a e))

-- ---- the beginning, and both

pub filled : (t : Table) (m : Memory) (mode : ℕ) (cs : List ℕ) {m₁ m₂ : Memory} {v : Verdict} → m₁ ≡ opened mode m → TakesAll t m₁ cs v m₂ → TakesAll t (opened mode m) cs v m₂
filled t m mode cs {m₂ = m₂} {v} q T = subst (λ (l : Memory). TakesAll t l cs v m₂) q T

module _ {t : Table} {m : Memory} {mode : ℕ} {cs : List ℕ} where
  pub list_asks : FillAsks t m mode cs → {m₁ : Memory} → m₁ ≡ opened mode m → ListAsks t m₁ cs
  list_asks A q = subst (λ (l : Memory). ListAsks t l cs) (sym q) A.list

  module _ {m₁ : Memory} {v : Verdict} {o : Output} (A : WorkAsks t m mode cs o) (T : TakesAll t (opened mode m) cs v m₁) (z : Sized m m₁) where
    pub finish_asks : FinishAsks v t m₁ o
    finish_asks = record { head_two = z.head ∙ A.fill.head_two; asks = read_asks v t m₁ o T.sound (λ _. A.agree) }

    pub worked : finishing v t mode m₁ o ≡ working t m mode cs o
    unfolding finishing working
    worked = ap (λ (n : Memory). reading (v ▷ require (output_fits (view t m₁) o) BadLengths) (read_from t m₁ o) n o) (opened_same mode z)
        ∙ ap (λ (l : Outcome). reading (l.answer ▷ require (output_fits (view t l.left) o) BadLengths) (read_from t l.left o) (opened mode m) o) T.done
