-- What the promise of `offer_all` allows is one outcome: the counts, and the memory left. Those of `same` are equations as they stand, and
-- that of `put_audit` is `Wrote` (crates/text/proofs/Determined).
-- Assumes nothing.
use Prim.Native.Nat.{ℕ, ◌≤◌}
use mathlib.Core.Path.{◌≡◌, sym, ◌∙◌}
use mathlib.Core.List.{List}
use lib.ListN.{length}
use Rattle.scope.specs.Table.{Table}
use Rattle.scope.specs.Memory.{Memory}
use Rattle.audit.specs.Feed.{Fed, feeding, points_unchecked}

abbrev pub Offered : Table → Memory → List ℕ → Fed → Type 0
Offered t m feed f = (f ≡ feeding t m feed) × (points_unchecked f.counts ≤ length feed)

pub offered_one : (t : Table) (m : Memory) (feed : List ℕ) {f f' : Fed} → Offered t m feed f → Offered t m feed f' → f ≡ f'
offered_one t m feed p q = p.0 ∙ sym q.0
