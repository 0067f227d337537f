-- A state that passes the rules may be read out: what `build_rings` asks, from the rules and the lengths of the slices.
-- Assumes nothing.
use Prim.Native.Nat.{ℕ, ◌<◌}
use mathlib.Core.Path.{◌≡◌, sym, ◌∙◌, ap}
use mathlib.Core.Bool.{Bool, true, ◌&&◌}
use mathlib.Core.Logic.{⊎_elim}
use mathlib.Core.List.{List}
use native.Mathlib.Omega.{arith}
use borrow.Author.Tests.{eqb-true}
use lib.Dec.{eqb}
use lib.ListN.{length, get_or-eq_default}
use Rattle.scope.specs.Lists.{at}
use Rattle.scope.specs.Table.{Table}
use Rattle.scope.specs.Memory.{Memory, Output, held, outputs_agree}
use Rattle.scope.specs.Order.{view}
use Rattle.scope.proofs.Tests.{and_left, and_right, le_or_lt}
use Rattle.scope.proofs.Linked.{at_in}
use Rattle.scope.proofs.Sound.{Sound, sound_table, sound_linked}
use Rattle.rings.specs.Grouping.{Parents}
use Rattle.rings.specs.Links.{Links}
use Rattle.rings.specs.Views.{Readable}
use Rattle.rings.specs.Build.{OutputFits, BuildReady}

-- a list that is 0 at its places is 0 everywhere
everywhere : (l : List ℕ) → ((i : ℕ) → i < length l → at l i ≡ 0) → (i : ℕ) → at l i ≡ 0
everywhere l z i = ⊎_elim (λ h. get_or-eq_default l 0 h) (λ h. z i h) (le_or_lt (length l) i)

three : (a b c : Bool) → (a && b && c) ≡ true → (a ≡ true) × (b ≡ true) × (c ≡ true)
three a b c e = let l = and_left (a && b) c e in (and_left a b l, and_right a b l, and_right (a && b) c e)

output_fits : (o : Output) → outputs_agree o ≡ true → OutputFits o
output_fits o e =
    let s = length o.start in
    let r = three (eqb (length o.size) s) (eqb (length o.group) s) (eqb (length o.area) s) e in
    record { sizes = eqb-true (length o.size) s r.0; groups = eqb-true (length o.group) s r.1; areas = eqb-true (length o.area) s r.2 }

module _ {t : Table} {m : Memory} (S : Sound t m) where
  state_links : Links m.row_slot m.slot_row m.next
  state_links =
      let L = sound_linked S in
      record {
        few = let a = S.lengths.row_slot in let b = (sound_table S).most in omega arith;
        slots = sym S.lengths.next;
        row_held = L.row_held;
        slot_held = L.slot_held;
        next_used = L.next_used;
        next_once = λ s u h k e. sym (L.prev_next s h) ∙ ap (at m.prev) e ∙ L.prev_next u k;
      }

  state_parents : Parents m.parent (held m)
  state_parents = record {
    ranks = m.rank;
    forest = record {
      room = let a = S.rules.count_fits in let b = S.lengths.parent in omega arith;
      ranks = S.lengths.rank ∙ sym S.lengths.parent;
      inside = S.rules.parent_held;
      rises = S.rules.rank_rises;
      weight = S.rules.ranks_fit;
    };
    few = let a = S.rules.count_fits in let b = S.lengths.most_places in omega arith;
  }

  pub state_readable : Readable (view t m)
  state_readable = record {
    links = state_links;
    cells = S.lengths.slot_cell;
    cell_held = λ s u. (S.rules.slot_used s (at_in m.slot_row s u) u).cell_held;
    parents = state_parents;
    terms = S.lengths.area ∙ sym S.lengths.row_slot;
  }

  pub build_ready : (o : Output) → outputs_agree o ≡ true → BuildReady (view t m) m.row_mark m.cell_mark o
  build_ready o e = record {
    readable = state_readable;
    marks = record {
      row_marks = S.lengths.row_mark ∙ sym S.lengths.row_slot;
      cell_marks = S.lengths.cell_mark ∙ sym S.lengths.parent;
      cells_clear = everywhere m.cell_mark S.rules.cell_marks;
    };
    rows_clear = everywhere m.row_mark S.rules.row_marks;
    output = output_fits o e;
  }
