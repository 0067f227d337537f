-- Reading out behind a verdict.
--     read_refused, read_ready, read_built     the two answers of the code
--     read_asks     a state that is sound can be read out
-- Assumes nothing.
use mathlib.Core.Path.{◌≡◌, sym, subst}
use mathlib.Core.Bool.{true}
use mathlib.Core.List.{List}
use Prim.Native.Nat.{ℕ}
use Rattle.std.specs.Prelude.{Ok, Err}
use Rattle.scope.specs.declared.Refusal.{Refusal}
use Rattle.scope.specs.Answers.{Answer, Verdict}
use Rattle.scope.specs.Table.{Table}
use Rattle.scope.specs.Memory.{Memory, Output, held, outputs_agree}
use Rattle.scope.specs.Order.{View}
use Rattle.scope.proofs.Sound.{Sound}
use Rattle.rings.specs.Views.{view_of}
use Rattle.rings.specs.Build.{BuildReady, Built}
use Rattle.rings.proofs.Building.{reading_is}
use Rattle.rings.proofs.FromRules.{build_ready}
use Rattle.reading.specs.Reading.{reading_if, ReadAsks}

-- the view of a state, with its number of held cells read anew
abbrev counting : Table → Memory → ℕ → View
counting t m n = view_of m.row_slot m.slot_row m.slot_cell m.next m.parent n t.area

module _ (v : Verdict) (t : Table) (m : Memory) (o : Output) where
  pub read_refused : {why : Refusal} → v ≡ Err why → record { answer = Err why; left = m; out = o } ≡ reading_if v t m o
  unfolding reading_if
  read_refused e = rw e

  module _ (e : v ≡ Ok tt) {n : ℕ} (q : n ≡ held m) where
    pub read_ready : ReadAsks v t m o → BuildReady (counting t m n) m.row_mark m.cell_mark o
    read_ready A = rw q (A.ready e)

    pub read_built : {row_mark cell_mark : List ℕ} {o' : Output} {r : Answer} → Built (counting t m n) m.row_mark m.cell_mark o row_mark cell_mark o' r
        → record { answer = r; left = record m { row_mark = row_mark; cell_mark = cell_mark }; out = o' } ≡ reading_if v t m o
    unfolding reading_if
    read_built {row_mark} {cell_mark} {o'} {r} B₀ =
        let B = subst (λ (k : ℕ). Built (counting t m k) m.row_mark m.cell_mark o row_mark cell_mark o' r) q B₀ in
        rw (B.answer, B.out, B.row_marks, B.cell_marks, e) (sym (reading_is t m o))

pub read_asks : (v : Verdict) (t : Table) (m : Memory) (o : Output) → (v ≡ Ok tt → Sound t m) → (v ≡ Ok tt → outputs_agree o ≡ true) → ReadAsks v t m o
read_asks v t m o sound agree = record {
  head_two = λ e. (sound e).lengths.head;
  ready = λ e. build_ready (sound e) o (agree e);
}
