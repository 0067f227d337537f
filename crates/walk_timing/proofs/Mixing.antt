-- What the loop over a walk keeps: the walk goes on, and the number so far with the edges left gives the outline's; and the test in front.
-- Assumes nothing.
use Prim.Native.Nat.{ℕ, ◌≤◌}
use mathlib.Core.Path.{◌≡◌, sym, ◌∙◌, ap}
use mathlib.Core.Bool.{Bool, true, false, not, ◌&&◌}
use lib.Bits.{bit_xor}
use lib.Dec.{leb}
use lib.ListN.{length}
use Rattle.std.proofs.lemmas.List.{nil_from_length}
use borrow.Author.Tests.{not-true, not-false, leb-true}
use Rattle.scope.specs.Cells.{valid_cell}
use Rattle.scope.specs.Walk.{outline}
use Rattle.scope.proofs.Tests.{and_left, and_right}
use Rattle.gosper.specs.declared.Gosper.{Gosper}
use Rattle.gosper.specs.declared.Stepped.{Stepped}
use Rattle.gosper.specs.Walking.{Walking, Begins, Steps, rest}
use Rattle.walk_timing.specs.Mixed.{mix_from, mixed}

pub record Mixing (x t : ℕ) (g : Gosper) (m : ℕ) : Type 0 where
  pub walking : Walking g
  pub edges : mix_from m (rest g) ≡ mix_from 0 (outline x t)

pub mixing_start : {x t : ℕ} {g : Gosper} → Begins x t g → Mixing x t g 0
mixing_start B = record { walking = B.walking; edges = ap (mix_from 0) B.rest }

pub mixing_step : {x t m : ℕ} {g : Gosper} {s : Stepped} → Mixing x t g m → Steps g s → Mixing x t s.walk (bit_xor m s.edge)
unfolding mix_from
mixing_step {m = m} M T = record { walking = T.walking; edges = sym (ap (mix_from m) T.rest) ∙ M.edges }

pub mixing_end : {x t m : ℕ} {g : Gosper} → Mixing x t g m → length (rest g) ≡ 0 → m ≡ mix_from 0 (outline x t)
unfolding mix_from
mixing_end {m = m} {g} M e = sym (ap (mix_from m) (nil_from_length (rest g) e)) ∙ M.edges

-- ---- the test in front

module _ (x t : ℕ) {b : Bool} (valid : b ≡ valid_cell x) where
  pub no_outline : not (b && leb t 15) ≡ true → 0 ≡ mixed x t
  unfolding mixed
  no_outline e = rw (← valid, not-true (b && leb t 15) e)

  pub is_outline : not (b && leb t 15) ≡ false → (valid_cell x ≡ true) × (t ≤ 15)
  is_outline e = (sym valid ∙ and_left b (leb t 15) (not-false _ e), leb-true t 15 (and_right b (leb t 15) (not-false _ e)))

  pub outline_mixed : {m : ℕ} → not (b && leb t 15) ≡ false → m ≡ mix_from 0 (outline x t) → m ≡ mixed x t
  unfolding mixed
  outline_mixed e q = rw (← valid, not-false (b && leb t 15) e) q
