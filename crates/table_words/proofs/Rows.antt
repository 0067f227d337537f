-- Rows past the end of a slice: they have no valid edge, and no finite area term.
-- Assumes nothing.
use Prim.Native.Nat.{ℕ, ◌<◌, ◌≤◌}
use mathlib.Core.Path.{◌≡◌, ap}
use mathlib.Core.Bool.{true, false}
use mathlib.Core.List.{List}
use mathlib.Core.Logic.{⊎_elim}
use lib.Ieee.{Float, nan}
use lib.ListN.{length, get_or, get_or-eq_default}
use Rattle.scope.specs.Lists.{at}
use Rattle.scope.specs.Cells.{valid_edge}
use Rattle.scope.specs.Table.{is_finite}
use Rattle.scope.proofs.Tests.{clash, le_or_lt}

pub edge_past : (es : List ℕ) (i : ℕ) → length es ≤ i → valid_edge (at es i) ≡ false
unfolding valid_edge
edge_past es i h = ap valid_edge (get_or-eq_default es 0 h)

pub edge_within : (es : List ℕ) (i : ℕ) → valid_edge (at es i) ≡ true → i < length es
edge_within es i v = ⊎_elim
    (λ (h : length es ≤ i). absurd (clash v (edge_past es i h)))
    (λ (h : i < length es). h)
    (le_or_lt (length es) i)

pub term_past : (terms : List Float) (i : ℕ) → length terms ≤ i → is_finite (get_or terms i nan) ≡ false
unfolding is_finite
term_past terms i h = ap is_finite (get_or-eq_default terms nan h)
