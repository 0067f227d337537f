-- Numbers out of their range: a used slot whose row, cell number or next is out of its range breaks its rules.
-- Assumes nothing.
use Prim.Native.Nat.{ℕ, ◌<◌}
use mathlib.Core.Path.{◌≡◌, refl, sym}
use mathlib.Core.Bool.{Bool, true, false, ◌&&◌, ◌||◌, not}
use native.Mathlib.Omega.{arith}
use lib.Dec.{leb}
use borrow.Author.Tests.{leb-true, ltb-true, lt-leb}
use Rattle.scope.specs.Lists.{at}
use Rattle.scope.specs.Table.{Table, row_count}
use Rattle.scope.specs.Memory.{Memory, held, slots, row_in}
use Rattle.scope.specs.Rules.{points_back, cell_kept, link_used, reverse_free}
use Rattle.scope.proofs.Tests.{clash, never, and_left, and_right}
use Rattle.slot_rules.specs.Slices.{ahead_kept, used_ahead}

module _ (t : Table) (m : Memory) (s : ℕ) where
  in_range : 0 < at m.slot_row s → used_ahead t m s ≡ true → (leb (row_count t) (row_in m s) || leb (held m) (at m.slot_cell s) || leb (slots m) (at m.next s)) ≡ false
  in_range used e =
      let most = and_left (points_back t m s && cell_kept t m s && ahead_kept m s) (reverse_free t m s) e in
      let two = and_left (points_back t m s && cell_kept t m s) (ahead_kept m s) most in
      let row = leb-true (at m.slot_row s) (row_count t) (and_left _ _ (and_left (points_back t m s) (cell_kept t m s) two)) in
      let cell = ltb-true (at m.slot_cell s) (held m) (and_left _ _ (and_right (points_back t m s) (cell_kept t m s) two)) in
      let ahead = and_left (link_used m (at m.next s)) _ (and_right (points_back t m s && cell_kept t m s) (ahead_kept m s) most) in
      let after = ltb-true (at m.next s) (slots m) (and_left _ _ ahead) in
      rw (lt-leb (row_count t) (row_in m s) (omega arith), lt-leb (held m) (at m.slot_cell s) cell, lt-leb (slots m) (at m.next s) after)

  pub out_of_range : {row place after : ℕ} → 0 < at m.slot_row s → row ≡ row_in m s → place ≡ at m.slot_cell s → after ≡ at m.next s
      → (leb (row_count t) row || leb (held m) place || leb (slots m) after) ≡ true → false ≡ used_ahead t m s
  out_of_range used r p a e = sym (never (used_ahead t m s) (λ k. clash (rw (r, p, a) at e) (in_range used k)))

pub not_not : (b : Bool) → not (not b) ≡ b
not_not true = refl
not_not false = refl
