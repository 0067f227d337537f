-- The edge at a walk read again: its head and digits, and that it can stand for the cell that it was made from.
--     edge_head, edge_digit     what stands above the digits, and each digit
--     edge_faced                the edge at another edge position
--     edge_again, edges_again   an edge has the cell's base cell and digits, so that it gives the same edges
-- Assumes nothing.
use mathlib.Core.Path.{◌≡◌, refl, ◌∙◌}
use mathlib.Core.Bool.{Bool}
use mathlib.Core.Logic.{⊎_elim}
use Prim.Native.Nat.{ℕ, zero, suc, ◌+◌, ◌*◌, ◌/◌, ◌%◌, ◌^◌, ◌<◌, ◌≤◌}
use native.Mathlib.Omega.{arith}
use borrow.Author.Tests.{le-leb, lt-leb}
use Rattle.scope.specs.Cells.{base_cell, digit}
use Rattle.scope.specs.Walk.{Walk, edge_direction, walked_digit, edge_at, step, edges}
use Rattle.scope.proofs.Tests.{le_or_lt}
use Rattle.scope.proofs.Spell.{built_base, spell_read, spell_same}
use Rattle.scope.proofs.Walks.{digits_at, digits_lt, walked_digit_lt, edge_direction_lt, edge_is}

module _ (x c t : ℕ) (w : Walk) where
  pub edge_head : edge_at x c t w / 2 ^ 45 ≡ ((2 * 8 + edge_direction w.edge_position) * 16 + t) * 128 + base_cell x
  edge_head = rw (edge_is x c t w) (omega (arith, digits_lt x c t w))

  pub edge_digit : (k : ℕ) → 0 < k → k ≤ 15 → digit (edge_at x c t w) k ≡ walked_digit x c t w k
  unfolding edge_at
  edge_digit k p q = spell_read _ (walked_digit x c t w) (walked_digit_lt x c t w) 15 k p q

  pub edge_base : t ≤ 15 → base_cell (edge_at x c t w) ≡ base_cell x
  edge_base deep =
      let d : edge_direction w.edge_position < 8 = omega (arith, edge_direction_lt w.edge_position) in
      rw (edge_is x c t w) (built_base 2 (edge_direction w.edge_position) t (base_cell x) (digits_at x c t w) d (omega arith) (omega arith) (digits_lt x c t w))

  again_digit : (v : Walk) (k : ℕ) → 0 < k → k ≤ 15 → walked_digit (edge_at x c t w) c t v k ≡ walked_digit x c t v k
  again_digit v k p q =
      ⊎_elim (λ (h : k ≤ c). rw (le-leb k c h) (edge_digit k p q ∙ rw (le-leb k c h))) (λ (h : c < k). rw (lt-leb k c h)) (le_or_lt k c)

  pub edge_again : t ≤ 15 → (v : Walk) → edge_at (edge_at x c t w) c t v ≡ edge_at x c t v
  unfolding edge_at
  edge_again deep v =
      rw (edge_base deep) (spell_same _ (walked_digit (edge_at x c t w) c t v) (walked_digit x c t v) 15 (again_digit v))

  pub edges_again : t ≤ 15 → (p : Bool) (n : ℕ) (v : Walk) → edges p (edge_at x c t w) c t n v ≡ edges p x c t n v
  unfolding edges
  edges_again deep p zero v = refl
  edges_again deep p (suc n) v = rw (edge_again deep v, edges_again deep p n (step c t v))

  -- with the top byte's mode and edge number replaced
  pub edge_faced : t ≤ 15 → (e : ℕ)
      → edge_at x c t w % 2 ^ 56 + (16 + edge_direction e) * 2 ^ 56 ≡ edge_at x c t (record { positions = w.positions; edge_position = e })
  edge_faced deep e =
      let v : Walk = record { positions = w.positions; edge_position = e } in
      let l = digits_lt x c t w in
      let h : edge_at x c t w % 2 ^ 56 ≡ (t * 128 + base_cell x) * 2 ^ 45 + digits_at x c t w = rw (edge_is x c t w) (omega arith) in
      rw (h, edge_is x c t v) (omega arith)
