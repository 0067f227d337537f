-- What the promise of `read_cells` allows is one outcome.
-- Assumes nothing.
use Prim.Native.Nat.{ℕ}
use mathlib.Core.Path.{◌≡◌, sym, ◌∙◌}
use mathlib.Core.List.{List}
use Rattle.std.specs.Prelude.{Result}
use Rattle.cell_text.specs.declared.Stopped.{Stopped}
use Rattle.cell_text.specs.Lines.{Reading, Stored}

pub stored_one : {r : Reading} {cells numbers cells' numbers' cells'' numbers'' : List ℕ} {answer answer' : Result ℕ Stopped}
    → Stored r cells numbers answer cells' numbers' → Stored r cells numbers answer' cells'' numbers'' → (answer ≡ answer') × (cells' ≡ cells'') × (numbers' ≡ numbers'')
stored_one A B = (A.answer_is ∙ sym B.answer_is, A.cells_are ∙ sym B.cells_are, A.numbers_are ∙ sym B.numbers_are)
