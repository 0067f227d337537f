-- The outputs of a read out that is shown, cleared ones as long as the table has rows.
--     outputs_cleared     they are cleared
--     Long, long_kept     outputs of n records and n rows, as cleared ones stay
--     shown_room          what a call reads out into them has the room that `show` asks for
--     shown_is            and shown it is `showing`
-- Assumes nothing.
use Prim.Native.Nat.{ℕ, ◌≤◌}
use mathlib.Core.Path.{◌≡◌, refl, sym, ◌∙◌, ap, subst}
use mathlib.Core.List.{List, []}
use native.Mathlib.Omega.{arith}
use lib.Ieee.{Float}
use lib.ListN.{length, length-replicate}
use Rattle.scope.specs.Answers.{Answer, rings_of}
use Rattle.scope.specs.Area.{positive_zero}
use Rattle.scope.specs.Memory.{Memory, Output}
use Rattle.scope.specs.Calls.{Reading}
use Rattle.scope.specs.Bytes.{edge_count, cleared_output, result_of, shown_verdict, shown_out, showing}
use Rattle.scope.proofs.ReadRoom.{RoomIn}
use Rattle.lent.specs.declared.Output.{Output as LentOutput}
use Rattle.lent.specs.Arrays.{outputs_within}
use Rattle.lent.specs.Lent.{output_of, SameOutput}
use Rattle.wire.specs.Room.{ShownRoom}

pub outputs_cleared : (n : ℕ) → outputs_within n n ≡ cleared_output n
unfolding cleared_output
outputs_cleared n = refl

pub record Long (n : ℕ) (o : Output) : Type 0 where
  pub start : length o.start ≡ n
  pub size : length o.size ≡ n
  pub group : length o.group ≡ n
  pub area : length o.area ≡ n
  pub edges : length o.edges ≡ n

pub long_kept : (n : ℕ) {a b : LentOutput} → output_of a ≡ cleared_output n → SameOutput a b → Long n (output_of b)
unfolding cleared_output
long_kept n e s =
    let k = length-replicate {A = ℕ} n 0 in
    record {
      start = s.start_length ∙ ap (λ (o : Output). length o.start) e ∙ k;
      size = s.size_length ∙ ap (λ (o : Output). length o.size) e ∙ k;
      group = s.group_length ∙ ap (λ (o : Output). length o.group) e ∙ k;
      area = s.area_length ∙ ap (λ (o : Output). length o.area) e ∙ length-replicate {A = Float} n positive_zero;
      edges = s.edges_length ∙ ap (λ (o : Output). length o.edges) e ∙ k;
    }

module _ {r : Answer} {m : Memory} {o : Output} {R : Reading} (e : record { answer = r; left = m; out = o } ≡ R) where
  pub shown_room : (n : ℕ) → n ≤ 1024 → RoomIn (cleared_output n) R → Long n o → ShownRoom r o
  unfolding cleared_output
  shown_room n few room long =
      let within : RoomIn (cleared_output n) (record { answer = r; left = m; out = o }) = subst (RoomIn (cleared_output n)) (sym e) room in
      let k = length-replicate {A = ℕ} n 0 in
      let rings : rings_of r ≤ n = subst (λ (j : ℕ). rings_of r ≤ j) k within.rings in
      let edges : edge_count r o ≤ n = subst (λ (j : ℕ). edge_count r o ≤ j) k within.edges in
      record {
        few = omega arith;
        few_edges = omega arith;
        here = record { starts = rw long.start rings; sizes = rw long.size rings; groups = rw long.group rings; areas = rw long.area rings };
        rows = rw long.edges edges;
      }

  pub shown_is : (out : List ℕ) {result : ℕ} {out' : List ℕ} → result ≡ result_of (shown_verdict r o out) → out' ≡ shown_out r o out
      → record { result = result; state = []; out = out' } ≡ showing R [] out
  unfolding showing
  shown_is out p q = rw (p, q) (ap (λ (x : Reading). record { result = result_of (shown_verdict x.answer x.out out); state = []; out = shown_out x.answer x.out out }) e)
