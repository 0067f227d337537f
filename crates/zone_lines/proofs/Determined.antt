-- What the promise of `tell_zone` allows is one outcome: what is told, and every byte of the slice.
-- Assumes nothing.
use mathlib.Core.Path.{◌≡◌, sym, ◌∙◌}
use mathlib.Core.List.{List}
use Prim.Native.Nat.{ℕ}
use Rattle.scope.specs.Answers.{Answer}
use Rattle.scope.specs.Memory.{Output}
use Rattle.zone_lines.specs.Telling.{Told, Tells}

pub tells_one : (table list : List ℕ) (cells : ℕ) (lines edges : List ℕ) (answer : Answer) (o : Output) (before : List ℕ) {after after' : List ℕ} {told told' : Told}
    → Tells table list cells lines edges answer o before after told → Tells table list cells lines edges answer o before after' told' → (after ≡ after') × (told ≡ told')
tells_one table list cells lines edges answer o before p q = (p.bytes ∙ sym q.bytes, p.answered ∙ sym q.answered)
