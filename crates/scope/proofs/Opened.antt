-- A NEWLY OPENED STATE keeps the rules, and shows that no cell is accepted.
--     opened_lengths, opened_sound     where the table passes 1 and the lengths fit, it is sound
--     opened_shows                     it shows the empty list of cells
-- Assumes nothing.
use mathlib.Core.Path.{◌≡◌, refl, sym, ◌∙◌}
use mathlib.Core.Logic.{⊎_elim}
use mathlib.Core.Bool.{Bool, true, false, cond}
use mathlib.Core.List.{List, []}
use Prim.Native.Nat.{ℕ, ◌≤◌, ◌<◌}
use native.Mathlib.Omega.{arith}
use lib.Dec.{eqb}
use lib.ListN.{length, length-replicate, get_or-replicate, get_or-eq_default}
use Rattle.std.specs.Prelude.{Ok}
use Rattle.scope.specs.Lists.{at, total, zeros}
use Rattle.scope.specs.Table.{Table, target_of, table_verdict}
use Rattle.scope.specs.CellLists.{list_verdict}
use Rattle.scope.specs.Memory.{Memory, opened, kept, has_slot}
use Rattle.scope.specs.Demands.{Shows}
use Rattle.scope.proofs.Tests.{le_or_lt}
use Rattle.scope.proofs.CellLists.{list_accepted}
use Rattle.scope.proofs.Rules.{RulesGood, not_zero}
use Rattle.scope.proofs.Lengths.{Lengths}
use Rattle.scope.proofs.Sound.{Sound}

pub zeros_length : (l : List ℕ) → length (zeros l) ≡ length l
zeros_length l = length-replicate (length l) 0

-- zeros at every place
pub zeros_at : (l : List ℕ) (i : ℕ) → at (zeros l) i ≡ 0
zeros_at l i = ⊎_elim
    (λ (h : length l ≤ i). get_or-eq_default (zeros l) 0 (rw (zeros_length l) h))
    (λ (h : i < length l). get_or-replicate (length l) i 0 0 h)
    (le_or_lt (length l) i)

kept_low : (b : Bool) → cond b 1 0 ≤ 1
kept_low true = omega arith
kept_low false = omega arith

no_cells : (mode target : ℕ) → list_verdict mode target 0 [] ≡ Ok tt
no_cells mode target = list_accepted mode target 0 [] (record {
  valid = λ i h. absurd (omega arith);
  once = λ i j h. absurd (omega arith);
  fits = λ i h. absurd (omega arith);
  apart = λ i j h. absurd (omega arith);
  room = omega arith;
})

module _ (t : Table) (m : Memory) (mode : ℕ) where
  pub opened_lengths : Lengths t m → Lengths t (opened mode m)
  unfolding opened
  opened_lengths l =
      let cells = zeros_length m.cells in
      let rows = zeros_length m.slot_row in
      record {
        reverse = l.reverse;
        area = l.area;
        head = refl;
        parent = zeros_length m.parent ∙ l.parent ∙ sym cells;
        rank = zeros_length m.rank ∙ l.rank ∙ sym cells;
        cell_mark = zeros_length m.cell_mark ∙ l.cell_mark ∙ sym cells;
        slot_cell = zeros_length m.slot_cell ∙ l.slot_cell ∙ sym rows;
        prev = zeros_length m.prev ∙ l.prev ∙ sym rows;
        next = zeros_length m.next ∙ l.next ∙ sym rows;
        row_slot = zeros_length m.row_slot ∙ l.row_slot;
        row_mark = zeros_length m.row_mark ∙ l.row_mark;
        some_slots = rw rows l.some_slots;
        most_slots = rw rows l.most_slots;
        some_places = rw cells l.some_places;
        most_places = rw cells l.most_places;
      }

  rules_opened : RulesGood t (opened mode m)
  unfolding opened total
  rules_opened = record {
    mode_fits = kept_low (eqb mode 1);
    count_fits = omega arith;
    cells_pass = no_cells (kept mode) (target_of t);
    row_held = λ r h n. absurd (n (zeros_at m.row_slot r));
    slot_used = λ s h n. absurd (n (zeros_at m.slot_row s));
    slot_free = λ s h z. record { cell_clear = zeros_at m.slot_cell s; prev_clear = zeros_at m.prev s; next_clear = zeros_at m.next s };
    row_marks = λ r h. zeros_at m.row_mark r;
    cell_marks = λ i h. zeros_at m.cell_mark i;
    parent_held = λ i h. absurd (omega arith);
    rank_rises = λ i h. absurd (omega arith);
    ranks_fit = omega arith;
  }

  pub opened_sound : table_verdict t ≡ Ok tt → Lengths t m → Sound t (opened mode m)
  opened_sound e l = record { table = e; lengths = opened_lengths l; rules = rules_opened }

  no_slot : (a : ℕ) → has_slot (opened mode m) a ≡ true → ⊥
  unfolding opened
  no_slot a e = not_zero (at (opened mode m).row_slot a) e (zeros_at m.row_slot a)

  pub opened_shows : Shows t (opened mode m) []
  unfolding opened
  opened_shows = record {
    cells = refl;
    stands = λ a h. (λ e. absurd (no_slot a e), λ s. absurd s.0);
    gives = λ a h e. absurd (no_slot a e);
    links = λ a h e. absurd (no_slot a e);
    groups = λ i j h. absurd (omega arith);
  }
