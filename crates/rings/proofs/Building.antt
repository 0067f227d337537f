-- `build_rings`: the outputs' room is tested before anything is written, and everything is as document 01 has it.
--     built_determined     any two outcomes that the promise allows are equal
--     reading_is           the promise in the words of the calls: read out's last test, and what follows it
-- Assumes nothing.
use Prim.Native.Nat.{ℕ, ◌≤◌}
use mathlib.Core.Path.{◌≡◌, refl, sym, ◌∙◌, ap, ap₂}
use mathlib.Core.Bool.{Bool, true, false, ◌&&◌, cond}
use mathlib.Core.Logic.{⊎_elim}
use mathlib.Core.List.{List}
use native.Mathlib.Omega.{arith}
use borrow.Author.Tests.{leb-true}
use lib.Dec.{leb}
use lib.ListN.{length}
use Rattle.scope.specs.declared.ReadOut.{ReadOut}
use Rattle.scope.specs.declared.Refusal.TheVariants.{BadLengths}
use Rattle.scope.specs.Lists.{zeros}
use Rattle.std.specs.Prelude.{Ok, Err}
use Rattle.scope.specs.Answers.{Answer, require}
use Rattle.scope.specs.Table.{Table}
use Rattle.scope.specs.Memory.{Memory, Output}
use Rattle.scope.specs.Order.{View, view, lowest_rows, ordered, edge_rows, read_answer}
use Rattle.scope.specs.Calls.{written, output_fits, read_from, reading}
use Rattle.scope.proofs.Tests.{either, and_left, and_right}
use Rattle.rings.specs.Marking.{CountReady, Counted}
use Rattle.rings.specs.Views.{edge_count}
use Rattle.rings.specs.Build.{WriteReady, Wrote, BuildReady, answered, left_in, Built}
use Rattle.rings.proofs.Surveys.{edge_rows_lem, cleared}
use Rattle.rings.proofs.Writing.{ordered_count, ordered_edges}

module _ {v : View} {row_mark cell_mark : List ℕ} {o : Output} (R : BuildReady v row_mark cell_mark o) where
  pub build_count : CountReady v.row_slot v.slot_row v.next row_mark
  build_count = record { links = R.readable.links; marks = R.marks.row_marks; clear = R.rows_clear }

  module _ {rowMark₁ : List ℕ} {rings edges : ℕ} (C : Counted v.row_slot v.slot_row v.next row_mark rowMark₁ rings edges) where
    edges_are : edges ≡ edge_count v
    edges_are = C.edges_are ∙ sym (ap length (edge_rows_lem v (lowest_rows v)))

    marks_cleared : zeros rowMark₁ ≡ row_mark
    marks_cleared = cleared row_mark rowMark₁ C.len R.rows_clear

    -- the test is the document's
    pub room_is : {b : Bool} → b ≡ (leb rings (length o.start) && leb edges (length o.edges)) → b ≡ output_fits v o
    unfolding output_fits
    room_is e =
        e ∙ ap₂ (λ (x y : ℕ). leb x (length o.start) && leb y (length o.edges)) (C.rings_are ∙ sym (ordered_count v)) (edges_are ∙ sym (ordered_edges v))

    module _ (t : output_fits v o ≡ true) where
      rooms : (rings ≤ length o.start) × (edge_count v ≤ length o.edges)
      unfolding output_fits
      rooms =
          let a = leb-true (length (ordered v)) (length o.start) (and_left (leb (length (ordered v)) (length o.start)) _ t) in
          let b = leb-true (length (edge_rows v (ordered v))) (length o.edges) (and_right (leb (length (ordered v)) (length o.start)) _ t) in
          let c = ordered_count v in let d = ordered_edges v in let e = C.rings_are in
          (omega arith, omega arith)

      pub build_write : WriteReady v rowMark₁ cell_mark o rings
      build_write =
          let r = rooms.0 in
          record {
            survey = record {
              readable = R.readable;
              marks = record { row_marks = C.len ∙ R.marks.row_marks; cell_marks = R.marks.cell_marks; cells_clear = R.marks.cells_clear };
              twos = C.twos;
              count = C.rings_are;
              few = let a = C.few in let b = edges_are in omega arith;
              edges_room = rooms.1;
              size_room = let a = R.output.sizes in omega arith;
              rows_room = let a = R.output.groups in omega arith;
              group_room = r;
              area_room = let a = R.output.areas in omega arith;
            };
            start_room = r;
          }

      pub built_written : {rowMark₂ cellMark₂ : List ℕ} {o₂ : Output} {r : ReadOut} → Wrote v rowMark₁ cell_mark o rowMark₂ cellMark₂ o₂ r → Built v row_mark cell_mark o rowMark₂ cellMark₂ o₂ (Ok r)
      unfolding answered left_in
      built_written W = record {
        answer = W.answer ∙ sym (ap (λ (b : Bool). cond b (read_answer v) (Err BadLengths)) t);
        out = W.out ∙ sym (ap (λ (b : Bool). cond b (written v o) o) t);
        row_marks = W.row_marks ∙ marks_cleared;
        cell_marks = W.cell_marks;
      }

    pub built_refused : output_fits v o ≡ false → {rowMark₂ : List ℕ} → rowMark₂ ≡ zeros rowMark₁ → Built v row_mark cell_mark o rowMark₂ cell_mark o (Err BadLengths)
    unfolding answered left_in
    built_refused t z = record {
      answer = sym (ap (λ (b : Bool). cond b (read_answer v) (Err BadLengths)) t);
      out = sym (ap (λ (b : Bool). cond b (written v o) o) t);
      row_marks = z ∙ marks_cleared;
      cell_marks = refl;
    }

-- ---- for a reader and for the calls

pub built_determined : {v : View} {row_mark cell_mark : List ℕ} {o : Output} {rowMark₁ cellMark₁ rowMark₂ cellMark₂ : List ℕ} {o₁ o₂ : Output} {r₁ r₂ : Answer}
    → Built v row_mark cell_mark o rowMark₁ cellMark₁ o₁ r₁ → Built v row_mark cell_mark o rowMark₂ cellMark₂ o₂ r₂ → (r₁ ≡ r₂) × (o₁ ≡ o₂) × (rowMark₁ ≡ rowMark₂) × (cellMark₁ ≡ cellMark₂)
built_determined A B = (A.answer ∙ sym B.answer, A.out ∙ sym B.out, A.row_marks ∙ sym B.row_marks, A.cell_marks ∙ sym B.cell_marks)

pub reading_is : (t : Table) (m : Memory) (o : Output)
    → reading (require (output_fits (view t m) o) BadLengths) (read_from t m o) m o ≡ record { answer = answered (view t m) o; left = m; out = left_in (view t m) o }
unfolding answered left_in
reading_is t m o = ⊎_elim (λ (e : output_fits (view t m) o ≡ true). rw e refl) (λ (e : output_fits (view t m) o ≡ false). rw e refl) (either (output_fits (view t m) o))
