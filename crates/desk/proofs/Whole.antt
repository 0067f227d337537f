-- What is printed is the whole text: a text that was written from the front on and did not fill its slice is the first bytes there.
-- Assumes nothing.
use Prim.Native.Nat.{ℕ, ◌+◌, ◌≤◌, ◌<◌}
use mathlib.Core.Path.{◌≡◌, ◌∙◌, ap}
use mathlib.Core.List.{List}
use mathlib.Core.Logic.{⊎_elim}
use native.Mathlib.Nat.{min-eq_left, min-eq_right}
use native.Mathlib.Omega.{arith}
use lib.ListN.{length, take, drop}
use lib.Seq.{sets-eq, take_at}
use Rattle.scope.proofs.Tests.{le_or_lt}
use Rattle.text.specs.Text.{Wrote}

pub whole : {before after : List ℕ} {to : ℕ} {text : List ℕ} → Wrote before 0 after to text → to < length before → take to after ≡ text
whole {before} {after} {to} {text} W h = ⊎_elim
    (λ (l : 0 + length text ≤ length before).
    let e : to ≡ 0 + length text = W.place ∙ min-eq_left l in
    let long : length text ≡ to = omega arith in
    ap (take to) (W.bytes ∙ sets-eq text before 0 l) ∙ take_at text (drop (0 + length text) before) to long)
    (λ (g : length before < 0 + length text).
    let few : length before ≤ 0 + length text = omega arith in
    let e : to ≡ length before = W.place ∙ min-eq_right few in
    absurd (omega arith))
    (le_or_lt (0 + length text) (length before))
