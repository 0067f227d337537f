-- How many bytes of a kind stand in front of a line is one number, whatever the kind: `Leads` allows one outcome. The promises of this crate
-- are equations as they stand.
-- Assumes nothing.
use Prim.Native.Nat.{ℕ, ◌≤◌}
use mathlib.Core.Path.{◌≡◌, sym, ◌∙◌}
use mathlib.Core.Bool.{Bool}
use mathlib.Core.List.{List}
use lib.ListN.{length}
use Rattle.std.specs.List.{take_while}

-- so many bytes that pass a test stand in front
abbrev pub Leads : (ℕ → Bool) → List ℕ → ℕ → Type 0
Leads kind s n = (n ≡ length (take_while kind s)) × (n ≤ length s)

pub leads_one : (kind : ℕ → Bool) (s : List ℕ) {n n' : ℕ} → Leads kind s n → Leads kind s n' → n ≡ n'
leads_one kind s p q = p.0 ∙ sym q.0
