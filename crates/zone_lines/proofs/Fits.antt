-- What is told by the bytes that were written is what is told by the bytes that there are to write.
-- Assumes nothing.
use Prim.Native.Nat.{ℕ, ◌+◌, ◌≤◌, ◌<◌, min}
use mathlib.Core.Path.{◌≡◌, sym, ◌∙◌, ap}
use mathlib.Core.Bool.{Bool, cond}
use mathlib.Core.List.{List}
use mathlib.Core.Logic.{⊎_elim}
use native.Mathlib.Nat.{min-eq_left, min-eq_right}
use native.Mathlib.Omega.{arith}
use borrow.Author.Tests.{le-ltb}
use lib.ListN.{length}
use Rattle.std.specs.Prelude.{Ok, Err, is_ok}
use Rattle.scope.specs.Answers.{Answer}
use Rattle.scope.specs.Memory.{Output}
use Rattle.scope.proofs.Tests.{le_or_lt}
use Rattle.text.specs.Text.{Wrote}
use Rattle.zone_lines.specs.declared.Untold.TheVariants.{Refused, TooLong}
use Rattle.zone_lines.specs.Zones.{zone_text}
use Rattle.zone_lines.specs.Telling.{Told, told_by, Tells}

told_fits : (n room : ℕ) (done : Bool) (size : ℕ) → size ≡ min (0 + n) room → told_by size room done ≡ told_by n room done
unfolding told_by
told_fits n room done size e =
    let from_0 : min (0 + n) room ≡ min n room = ap (λ (k : ℕ). min k room) (let z : 0 + n ≡ n = omega arith in z) in
    ⊎_elim
    (λ (h : room ≤ n).
    let full : size ≡ room = e ∙ from_0 ∙ min-eq_right h in
    ap (λ (t : Bool). cond {A = Told} t (cond done (Ok size) (Err (Refused size))) (Err TooLong)) (le-ltb size room (omega arith))
    ∙ sym (ap (λ (t : Bool). cond {A = Told} t (cond done (Ok n) (Err (Refused n))) (Err TooLong)) (le-ltb n room h)))
    (λ (h : n < room). ap (λ (k : ℕ). told_by k room done) (e ∙ from_0 ∙ min-eq_left (let z : n ≤ room = omega arith in z)))
    (le_or_lt room n)

pub tells : {table list : List ℕ} {cells : ℕ} {lines edges : List ℕ} {answer : Answer} {o : Output} {before after : List ℕ} {size : ℕ} {done : Bool} {told : Told}
    → Wrote before 0 after size (zone_text table list cells lines edges answer o) → done ≡ is_ok answer → told ≡ told_by size (length before) done
    → Tells table list cells lines edges answer o before after told
tells {table} {list} {cells} {lines} {edges} {answer} {o} {before} {after} {size} {done} W d t = record {
  bytes = W.bytes;
  answered = t ∙ ap (λ (b : Bool). told_by size (length before) b) d
      ∙ told_fits (length (zone_text table list cells lines edges answer o)) (length before) (is_ok answer) size W.place;
}
