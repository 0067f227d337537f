-- The promises leave one outcome: any two that they allow are equal, in every field.
-- Assumes nothing.
use mathlib.Core.Path.{◌≡◌, ◌∙◌, sym}
use Prim.Native.Nat.{ℕ}
use lib.ListN.{length}
use Rattle.gosper.specs.declared.Gosper.{Gosper}
use Rattle.gosper.specs.declared.Stepped.{Stepped}
use Rattle.gosper.specs.Walking.{rest, Begins, Steps}

pub new_determined : (x t : ℕ) (g h : Gosper) → Begins x t g → Begins x t h → g ≡ h
new_determined x t g h a b = a.fields ∙ sym b.fields

pub step_determined : (g : Gosper) (r s : Stepped) → Steps g r → Steps g s → r ≡ s
step_determined g r s a b = a.fields ∙ sym b.fields

pub len_determined : (g : Gosper) (m n : ℕ) → m ≡ length (rest g) → n ≡ length (rest g) → m ≡ n
len_determined g m n a b = a ∙ sym b
