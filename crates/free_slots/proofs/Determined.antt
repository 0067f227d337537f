-- What the public promises of this crate allow is one outcome each, but for the flags that a search leaves, which are scratch.
-- Assumes nothing.
use mathlib.Core.Path.{◌≡◌, sym, ◌∙◌}
use mathlib.Core.List.{List}
use Prim.Native.Nat.{ℕ}
use Rattle.free_slots.specs.Search.{Searched}

pub searched_one : {slot_row v v' : List ℕ} {start r r' : ℕ} → Searched slot_row start r v → Searched slot_row start r' v' → r ≡ r'
searched_one S R = S.found ∙ sym R.found
