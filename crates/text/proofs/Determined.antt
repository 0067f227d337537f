-- What `Wrote` allows is one outcome: every byte, and the place after the text. So it is of each function, here and above, that promises it.
-- Assumes nothing.
use Prim.Native.Nat.{ℕ}
use mathlib.Core.Path.{◌≡◌, sym, ◌∙◌}
use mathlib.Core.List.{List}
use Rattle.text.specs.Text.{Wrote}

pub wrote_determined : {before text after after' : List ℕ} {from to to' : ℕ} → Wrote before from after to text → Wrote before from after' to' text → (after ≡ after') × (to ≡ to')
wrote_determined A B = (A.bytes ∙ sym B.bytes, A.place ∙ sym B.place)
