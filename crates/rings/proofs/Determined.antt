-- What the promise of `build_rings` allows is one outcome.
-- Assumes nothing.
use mathlib.Core.Path.{◌≡◌, sym, ◌∙◌}
use mathlib.Core.List.{List}
use Prim.Native.Nat.{ℕ}
use Rattle.scope.specs.Answers.{Answer}
use Rattle.scope.specs.Memory.{Output}
use Rattle.scope.specs.Order.{View}
use Rattle.rings.specs.Build.{Built}

pub built_one : {v : View} {row_mark cell_mark r c r' c' : List ℕ} {out o o' : Output} {a a' : Answer}
    → Built v row_mark cell_mark out r c o a → Built v row_mark cell_mark out r' c' o' a' → (a ≡ a') × (r ≡ r') × (c ≡ c') × (o ≡ o')
built_one A B =
    (A.answer ∙ sym B.answer, A.row_marks ∙ sym B.row_marks, A.cell_marks ∙ sym B.cell_marks, A.out ∙ sym B.out)
