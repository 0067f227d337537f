-- How much is decoded.
--     table_rows      a table has as many rows as its bytes hold
--     cleared_room, decoded_room     a state of so many bytes has room in columns of its sizes, cleared ones and its own
--     decoded_like    and it is the same, decoded into cleared columns
--     room_kept       columns as long as before have the same room
-- Assumes nothing.
use Prim.Native.Nat.{ℕ, ◌+◌, ◌*◌}
use mathlib.Core.Path.{◌≡◌, refl, sym, ◌∙◌}
use mathlib.Core.List.{List}
use lib.ListN.{length, length-replicate}
use Rattle.scope.specs.Table.{row_count}
use Rattle.scope.specs.Bytes.{rows_in, u32_at, u64_at, table_in, state_in, state_size, cleared, slots_from, rows_from}
use Rattle.scope.proofs.Below.{tabulate_length}
use Rattle.lent.specs.declared.Memory.{Memory as LentMemory}
use Rattle.lent.specs.declared.Marks.{Marks}
use Rattle.lent.specs.Lent.{memory_of, SameMemory, SameMarks}
use Rattle.wire.specs.Sizes.{StateRoom, state_like}

pub table_rows : (b : List ℕ) → row_count (table_in b) ≡ rows_in b
unfolding table_in
table_rows b = tabulate_length (λ i. u64_at b (0 + i * 20)) 0 (rows_in b)

module _ (rows slots places : ℕ) (b : List ℕ) (whole : length b ≡ state_size rows slots places) where
  pub cleared_room : StateRoom b (cleared rows slots places)
  unfolding cleared
  cleared_room =
      let of_place = length-replicate {A = ℕ} places 0 in let of_slot = length-replicate {A = ℕ} slots 0 in let of_row = length-replicate {A = ℕ} rows 0 in
      record {
        whole = rw (of_row, of_slot, of_place) whole;
        head = refl;
        parent = refl;
        rank = refl;
        cell_mark = refl;
        slot_cell = refl;
        prev = refl;
        next = refl;
        row_mark = refl;
      }

  pub decoded_room : StateRoom b (state_in rows slots places b)
  unfolding state_in
  decoded_room =
      let long = λ (start n : ℕ). tabulate_length (λ i. u32_at b (start + i * 4)) 0 n in
      let of_place = tabulate_length (λ i. u64_at b (8 + i * 8)) 0 places in
      record {
        whole = rw (long (rows_from slots places) rows, long (slots_from places) slots, of_place) whole;
        head = long 0 2;
        parent = long _ places ∙ sym of_place;
        rank = long _ places ∙ sym of_place;
        cell_mark = long _ places ∙ sym of_place;
        slot_cell = long _ slots ∙ sym (long _ slots);
        prev = long _ slots ∙ sym (long _ slots);
        next = long _ slots ∙ sym (long _ slots);
        row_mark = long _ rows ∙ sym (long _ rows);
      }

  pub decoded_like : state_like (cleared rows slots places) b ≡ state_in rows slots places b
  unfolding cleared
  decoded_like = rw (length-replicate {A = ℕ} places 0, length-replicate {A = ℕ} slots 0, length-replicate {A = ℕ} rows 0)

pub room_kept : {b : List ℕ} {m m' : LentMemory} {k k' : Marks} → StateRoom b (memory_of m k) → SameMemory m m' → SameMarks k k' → StateRoom b (memory_of m' k')
room_kept R s t = record {
  whole = rw (s.row_slot_length, s.slot_row_length, s.cells_length) R.whole;
  head = s.head_length ∙ R.head;
  parent = s.parent_length ∙ R.parent ∙ sym s.cells_length;
  rank = s.rank_length ∙ R.rank ∙ sym s.cells_length;
  cell_mark = t.cell_mark_length ∙ R.cell_mark ∙ sym s.cells_length;
  slot_cell = s.slot_cell_length ∙ R.slot_cell ∙ sym s.slot_row_length;
  prev = s.prev_length ∙ R.prev ∙ sym s.slot_row_length;
  next = s.next_length ∙ R.next ∙ sym s.slot_row_length;
  row_mark = t.row_mark_length ∙ R.row_mark ∙ sym s.row_slot_length;
}
