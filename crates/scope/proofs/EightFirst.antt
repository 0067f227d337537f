-- 8 COMES BEFORE 5, 6 AND 7: where the cells pass 2, 3 and 4 (as they would with room for them) and are more than the capacity, the refusal is 8,
-- whatever their outlines are.
--     cell_eight, list_eight          a cell's tests, a list's tests
--     offer_eight, dissolve_eight     the calls: nothing is written
-- Assumes nothing.
use Prim.Native.Nat.{ℕ, suc, ◌<◌, ◌≤◌}
use mathlib.Core.Path.{◌≡◌, refl, ◌∙◌}
use mathlib.Core.Bool.{true}
use mathlib.Core.List.{List}
use native.Mathlib.Omega.{arith}
use borrow.Author.Tests.{lt-leb}
use lib.ListN.{length}
use Rattle.scope.specs.declared.Refusal.TheVariants.{InvalidCell, DuplicateInput, UnsupportedResolution, TooManyCells}
use Rattle.std.specs.Prelude.{Err, Ok}
use Rattle.scope.specs.Lists.{first_bad, passes}
use Rattle.scope.specs.Cells.{valid_cell}
use Rattle.scope.specs.Answers.{require, require_none, ◌▷◌, Verdict}
use Rattle.scope.specs.Table.{Table, target_of}
use Rattle.scope.specs.CellLists.{valid_at, differs, first_of_its_kind, resolution_fits, resolution_fits_at, not_under, under_none, in_mixed, room_for, list_verdict, not_over, cell_verdict}
use Rattle.scope.specs.Memory.{Memory, Output, kept_mode, held_cells, places, kept, outputs_agree}
use Rattle.scope.specs.Calls.{open_verdict, state_verdict, offer_verdict, offering, dissolve_verdict, dissolving}
use Rattle.scope.proofs.Run.{refused_not}
use Rattle.scope.proofs.Refused.{refusing}

-- four tests that pass, and then a last one
last_test : (a b c d u w : Verdict) → (a ▷ b ▷ c ▷ d ▷ u) ≡ Ok tt → (a ▷ b ▷ c ▷ d ▷ w) ≡ w
last_test (Ok _) (Ok _) (Ok _) (Ok _) u w e = refl
last_test (Ok _) (Ok _) (Ok _) (Err why) u w e = refused_not e
last_test (Ok _) (Ok _) (Err why) d u w e = refused_not e
last_test (Ok _) (Err why) c d u w e = refused_not e
last_test (Err why) b c d u w e = refused_not e

no_room : (capacity n : ℕ) → capacity < n → room_for capacity n ≡ Err TooManyCells
no_room capacity n h = rw (lt-leb n capacity h)

module _ (mode target room capacity : ℕ) (cs : List ℕ) where
  abbrev n : ℕ
  n = length cs

  pub cell_eight : (x : ℕ) → cell_verdict mode target room cs x ≡ Ok tt → capacity ≤ length cs → cell_verdict mode target capacity cs x ≡ Err TooManyCells
  unfolding cell_verdict
  cell_eight x e h =
      last_test (require (valid_cell x) (InvalidCell n)) (require (passes (differs cs x) n) (DuplicateInput n)) (require (resolution_fits mode target x) (UnsupportedResolution n))
      (in_mixed mode (require_none DuplicateInput n (first_bad (not_over cs x) n) ▷ require (passes (not_under cs x) n) (DuplicateInput n))) (room_for room (suc n)) (room_for capacity (suc n)) e
      ∙ no_room capacity (suc n) (omega arith)

  pub list_eight : list_verdict mode target room cs ≡ Ok tt → capacity < length cs → list_verdict mode target capacity cs ≡ Err TooManyCells
  unfolding list_verdict
  list_eight e h =
      last_test (require_none InvalidCell n (first_bad (valid_at cs) n)) (require_none DuplicateInput n (first_bad (first_of_its_kind cs) n)) (require_none UnsupportedResolution n (first_bad (resolution_fits_at mode target cs) n))
      (in_mixed mode (require_none DuplicateInput n (first_bad (under_none cs) n))) (room_for room n) (room_for capacity n) e
      ∙ no_room capacity n h

pub offer_eight : (t : Table) (m : Memory) (x room : ℕ) → state_verdict t m ≡ Ok tt
    → cell_verdict (kept_mode m) (target_of t) room (held_cells m) x ≡ Ok tt → places m ≤ length (held_cells m)
    → offering t m x ≡ record { answer = Err TooManyCells; left = m }
unfolding offering offer_verdict
offer_eight t m x room s e h = let z = cell_eight (kept_mode m) (target_of t) room (places m) (held_cells m) x e h in rw (s, z)

pub dissolve_eight : (t : Table) (m : Memory) (mode room : ℕ) (xs : List ℕ) (o : Output) → outputs_agree o ≡ true → open_verdict t m mode ≡ Ok tt
    → list_verdict (kept mode) (target_of t) room xs ≡ Ok tt → places m < length xs → dissolving t m mode xs o ≡ refusing TooManyCells m o
unfolding dissolving dissolve_verdict
dissolve_eight t m mode room xs o a s e h = let z = list_eight (kept mode) (target_of t) room (places m) xs e h in rw (a, s, z)
