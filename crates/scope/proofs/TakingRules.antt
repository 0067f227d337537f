-- ONE MORE CELL KEEPS THE RULES: a sound state that accepts a cell is sound when it has taken it.
--     taken_lengths     every slice keeps its length
--     taken_sound       the state is sound again
-- Assumes nothing.
use mathlib.Core.Path.{◌≡◌, sym, ◌∙◌, ap}
use mathlib.Core.Logic.{⊎_elim}
use mathlib.Core.Bool.{false}
use mathlib.Core.List.{[], ◌∷◌, ◌++◌}
use Prim.Native.Nat.{ℕ, suc, ◌+◌, ◌-◌, ◌<◌}
use native.Mathlib.Omega.{arith}
use lib.ListN.{length, length-set}
use Rattle.scope.specs.Lists.{at}
use Rattle.scope.specs.Table.{Table, reverse_of, target_of}
use Rattle.scope.specs.Memory.{Memory, kept_mode, held, held_cells, places, slots, row_in}
use Rattle.scope.specs.Pool.{stays, taking}
use Rattle.scope.proofs.Tests.{either}
use Rattle.scope.proofs.CellLists.{ListGood, list_accepted}
use Rattle.scope.proofs.Rules.{SlotUsed, SlotFree, RulesGood}
use Rattle.scope.proofs.Members.{cases}
use Rattle.scope.proofs.Lengths.{Lengths}
use Rattle.scope.proofs.Linked.{at_in, Used, has_in, row_has, slot_used, stays_used}
use Rattle.scope.proofs.Cancelling.{cell_left, row_left, cancelled_used, used_left, cancelled_none}
use Rattle.scope.proofs.Pairs.{united_length}
use Rattle.scope.proofs.Sound.{Sound, sound_reverses, Offered, offered_cells, offered_room, more_count}
use Rattle.scope.proofs.Taking.{placed_for, one_place_more, pairs_met, placed_parents, taken_parent, taken_cell_mark, taken_row_mark, taken_cancelled, taken_head, taken_held, taken_mode, taken_room, taken_cells, offered_placed, offered_linked, taken_linked, placed_cell, placed_owned, taken_forest}

module _ {t : Table} {m : Memory} {x : ℕ} (O : Offered t m x) where
  pub pool_same : slots (taking t m x) ≡ slots m
  pool_same = (taken_cancelled t m x).pool ∙ (offered_placed O).pool

  pub taken_lengths : Lengths t (taking t m x)
  taken_lengths =
      let l = O.sound.lengths in
      let C = taken_cancelled t m x in
      let pool = (offered_placed O).pool in
      let room = taken_room O in
      let parents : length (taking t m x).parent ≡ places m =
      rw (taken_parent t m x) (united_length t (placed_for t m x) (pairs_met t m x) (one_place_more t m x) ∙ placed_parents t m x ∙ l.parent) in
      record {
        reverse = l.reverse;
        area = l.area;
        head = rw (taken_head t m x, length-set m.head 1 (held m + 1)) l.head;
        parent = parents ∙ sym room;
        rank = (taken_forest O).ranks ∙ parents ∙ sym room;
        cell_mark = rw (taken_cell_mark t m x) (l.cell_mark ∙ sym room);
        slot_cell = C.cell_count ∙ sym C.pool;
        prev = C.prev_count ∙ sym C.pool;
        next = C.next_count ∙ sym C.pool;
        row_slot = C.rows;
        row_mark = rw (taken_row_mark t m x) l.row_mark;
        some_slots = rw pool_same l.some_slots;
        most_slots = rw pool_same l.most_slots;
        some_places = rw room l.some_places;
        most_places = rw room l.most_places;
      }

  -- ---- the slots

  taken_used : (s : ℕ) → Used (taking t m x) s → SlotUsed t (taking t m x) s
  taken_used s u =
      let p = placed_for t m x in
      let R = sound_reverses O.sound in
      let L = taken_linked O in
      let C = taken_cancelled t m x in
      let e = cancelled_used R (offered_linked O) C s u in
      let v = stays_used t p s e in
      let row : row_in (taking t m x) s ≡ row_in p s = ap (λ (k : ℕ). k - 1) (row_left R (offered_linked O) C s e) in
      let cell = cell_left R (offered_linked O) C s e in
      let low : at (taking t m x).slot_cell s < suc (held m) = rw cell (placed_cell O s v) in
      record {
        row_within = has_in L (row_in (taking t m x) s) (row_has L s u);
        row_is = plus (at (taking t m x).slot_row s) u;
        back = L.slot_held s u;
        cell_held = rw (taken_held O) low;
        owned = rw (cell, row) (placed_owned O s v);
        prev_in = at_in (taking t m x).slot_row _ (L.prev_used s u);
        prev_used = L.prev_used s u;
        next_in = at_in (taking t m x).slot_row _ (L.next_used s u);
        next_used = L.next_used s u;
        next_prev = L.next_prev s u;
        prev_next = L.prev_next s u;
        reverse_free = cases (at (taking t m x).row_slot (reverse_of t (row_in (taking t m x) s))) 0 (λ z. z)
            (λ n. absurd (cancelled_none R (offered_linked O) C (row_in (taking t m x) s) (row_has L s u) n));
      }
    where
      plus : (k : ℕ) → (k ≡ 0 → ⊥) → k ≡ k - 1 + 1
      plus k n = omega arith

  taken_free : (s : ℕ) → at (taking t m x).slot_row s ≡ 0 → SlotFree (taking t m x) s
  taken_free s z =
      let C = taken_cancelled t m x in
      let gone : stays t (placed_for t m x) s ≡ false =
      ⊎_elim (λ e. absurd (used_left (sound_reverses O.sound) (offered_linked O) C s e z)) (λ e. e) (either (stays t (placed_for t m x) s)) in
      record { cell_clear = C.slot_cell s ∙ rw gone; prev_clear = C.slot_prev s ∙ rw gone; next_clear = C.slot_next s ∙ rw gone }

  -- ---- all rules

  cells_good : ListGood (kept_mode m) (target_of t) (suc (held m)) (held_cells m ++ (x ∷ []))
  cells_good =
      let g = offered_cells O in
      record { valid = g.valid; once = g.once; fits = g.fits; apart = g.apart; room = rw (more_count O) (omega arith) }

  taken_rules : RulesGood t (taking t m x)
  taken_rules =
      let g = O.sound.rules in
      let L = taken_linked O in
      let F = taken_forest O in
      record {
        mode_fits = rw (taken_mode O) g.mode_fits;
        count_fits = rw (taken_held O, taken_room O) (offered_room O);
        cells_pass = rw (taken_cells O, taken_mode O, taken_held O) (list_accepted (kept_mode m) (target_of t) (suc (held m)) (held_cells m ++ (x ∷ [])) cells_good);
        row_held = λ r h n. record { slot-in = at_in (taking t m x).slot_row _ (slot_used L r n); holds = L.row_held r n };
        slot_used = λ s h n. taken_used s n;
        slot_free = λ s h z. taken_free s z;
        row_marks = rw (taken_row_mark t m x) g.row_marks;
        cell_marks = rw (taken_cell_mark t m x) g.cell_marks;
        parent_held = rw (taken_held O) F.inside;
        rank_rises = rw (taken_held O) F.rises;
        ranks_fit = rw (taken_held O) F.weight;
      }

  pub taken_sound : Sound t (taking t m x)
  taken_sound = record { table = O.sound.table; lengths = taken_lengths; rules = taken_rules }
