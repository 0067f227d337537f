-- A state's columns, each written behind the one before, are its bytes.
--     state_written     all of them, over as many bytes
-- Assumes nothing.
use Prim.Native.Nat.{ℕ, ◌+◌, ◌*◌}
use mathlib.Core.Path.{◌≡◌, ◌∙◌, ap}
use mathlib.Core.List.{List, ◌++◌, append-nil}
use native.Mathlib.Omega.{arith}
use lib.ListN.{length, length-append, drop_of_length-le}
use lib.Seq.{sets, sets-eq}
use Rattle.scope.specs.Memory.{Memory, places, slots}
use Rattle.scope.specs.Bytes.{all32, all64, places_bytes, slots_bytes, rows_bytes, slots_from, rows_from, state_bytes}
use Rattle.scope.proofs.RoundTrip.{long32, long64}
use Rattle.codec.proofs.Writing.{behind}
use Rattle.wire.specs.Sizes.{StateRoom, rows}

-- a column behind what is written
more32 : (x l : List ℕ) (n : ℕ) → length l ≡ n → length (x ++ all32 l) ≡ length x + 4 * n
more32 x l n e = length-append x (all32 l) ∙ (let k = long32 l in let z : length x + length (all32 l) ≡ length x + 4 * n = omega arith in z)

over_all : (b x : List ℕ) → length b ≡ length x → sets b 0 x ≡ x
over_all b x e =
    sets-eq x b 0 (omega arith)
    ∙ ap (λ (l : List ℕ). x ++ l) (drop_of_length-le b {i = 0 + length x} (omega arith)) ∙ append-nil x

module _ {b : List ℕ} {m : Memory} (R : StateRoom b m) where
  slots_long : length (slots_bytes m.slot_row m.slot_cell m.prev m.next) ≡ 16 * slots m
  slots_long =
      let a = long32 m.slot_row in
      let c = more32 (all32 m.slot_row) m.slot_cell (slots m) R.slot_cell in
      let p = more32 (all32 m.slot_row ++ all32 m.slot_cell) m.prev (slots m) R.prev in
      let n = more32 (all32 m.slot_row ++ all32 m.slot_cell ++ all32 m.prev) m.next (slots m) R.next in
      omega arith

  slots_written : (b₀ : List ℕ) {b₁ b₂ b₃ b₄ : List ℕ} → b₁ ≡ sets b₀ (slots_from (places m)) (all32 m.slot_row) → b₂ ≡ sets b₁ (slots_from (places m) + 4 * slots m) (all32 m.slot_cell)
      → b₃ ≡ sets b₂ (slots_from (places m) + 8 * slots m) (all32 m.prev) → b₄ ≡ sets b₃ (slots_from (places m) + 12 * slots m) (all32 m.next)
      → b₄ ≡ sets b₀ (slots_from (places m)) (slots_bytes m.slot_row m.slot_cell m.prev m.next)
  slots_written b₀ e₁ e₂ e₃ e₄ =
      let start = slots_from (places m) in
      let a = long32 m.slot_row in
      let c = more32 (all32 m.slot_row) m.slot_cell (slots m) R.slot_cell in
      let p = more32 (all32 m.slot_row ++ all32 m.slot_cell) m.prev (slots m) R.prev in
      let two = behind b₀ (all32 m.slot_row) (all32 m.slot_cell) start e₁ e₂ (omega arith) in
      let three = behind b₀ (all32 m.slot_row ++ all32 m.slot_cell) (all32 m.prev) start two e₃ (omega arith) in
      behind b₀ (all32 m.slot_row ++ all32 m.slot_cell ++ all32 m.prev) (all32 m.next) start three e₄ (omega arith)

  rows_long : length (rows_bytes m.row_slot m.row_mark) ≡ 8 * rows m
  rows_long = let a = long32 m.row_slot in let k = more32 (all32 m.row_slot) m.row_mark (rows m) R.row_mark in omega arith

  head_long : length (all32 m.head) ≡ 8
  head_long = let a = long32 m.head in let t = R.head in omega arith

  cells_long : length (all32 m.head ++ all64 m.cells) ≡ 8 + 8 * places m
  cells_long = length-append (all32 m.head) (all64 m.cells) ∙ (let h = head_long in let a = long64 m.cells in let z : length (all32 m.head) + length (all64 m.cells) ≡ 8 + 8 * places m = omega arith in z)

  places_long : length (places_bytes m.head m.cells m.parent m.rank m.cell_mark) ≡ slots_from (places m)
  places_long =
      let c = cells_long in
      let p = more32 (all32 m.head ++ all64 m.cells) m.parent (places m) R.parent in
      let r = more32 (all32 m.head ++ all64 m.cells ++ all32 m.parent) m.rank (places m) R.rank in
      let k = more32 (all32 m.head ++ all64 m.cells ++ all32 m.parent ++ all32 m.rank) m.cell_mark (places m) R.cell_mark in
      omega arith

  places_written : {b₁ b₂ b₃ b₄ b₅ : List ℕ} → b₁ ≡ sets b 0 (all32 m.head) → b₂ ≡ sets b₁ 8 (all64 m.cells)
      → b₃ ≡ sets b₂ (8 + 8 * places m) (all32 m.parent) → b₄ ≡ sets b₃ (8 + 12 * places m) (all32 m.rank) → b₅ ≡ sets b₄ (8 + 16 * places m) (all32 m.cell_mark)
      → b₅ ≡ sets b 0 (places_bytes m.head m.cells m.parent m.rank m.cell_mark)
  places_written e₁ e₂ e₃ e₄ e₅ =
      let h = head_long in let c = cells_long in
      let p = more32 (all32 m.head ++ all64 m.cells) m.parent (places m) R.parent in
      let r = more32 (all32 m.head ++ all64 m.cells ++ all32 m.parent) m.rank (places m) R.rank in
      let two = behind b (all32 m.head) (all64 m.cells) 0 e₁ e₂ (omega arith) in
      let three = behind b (all32 m.head ++ all64 m.cells) (all32 m.parent) 0 two e₃ (omega arith) in
      let four = behind b (all32 m.head ++ all64 m.cells ++ all32 m.parent) (all32 m.rank) 0 three e₄ (omega arith) in
      behind b (all32 m.head ++ all64 m.cells ++ all32 m.parent ++ all32 m.rank) (all32 m.cell_mark) 0 four e₅ (omega arith)

  pub state_written : {b₁ b₂ b₃ b₄ b₅ b₆ b₇ b₈ b₉ b₁₀ b₁₁ : List ℕ} → b₁ ≡ sets b 0 (all32 m.head) → b₂ ≡ sets b₁ 8 (all64 m.cells)
      → b₃ ≡ sets b₂ (8 + 8 * places m) (all32 m.parent) → b₄ ≡ sets b₃ (8 + 12 * places m) (all32 m.rank) → b₅ ≡ sets b₄ (8 + 16 * places m) (all32 m.cell_mark)
      → b₆ ≡ sets b₅ (slots_from (places m)) (all32 m.slot_row) → b₇ ≡ sets b₆ (slots_from (places m) + 4 * slots m) (all32 m.slot_cell)
      → b₈ ≡ sets b₇ (slots_from (places m) + 8 * slots m) (all32 m.prev) → b₉ ≡ sets b₈ (slots_from (places m) + 12 * slots m) (all32 m.next)
      → b₁₀ ≡ sets b₉ (rows_from (slots m) (places m)) (all32 m.row_slot) → b₁₁ ≡ sets b₁₀ (rows_from (slots m) (places m) + 4 * rows m) (all32 m.row_mark)
      → b₁₁ ≡ state_bytes m
  unfolding state_bytes
  state_written e₁ e₂ e₃ e₄ e₅ e₆ e₇ e₈ e₉ e₁₀ e₁₁ =
      let x = places_bytes m.head m.cells m.parent m.rank m.cell_mark in
      let y = slots_bytes m.slot_row m.slot_cell m.prev m.next in
      let z = rows_bytes m.row_slot m.row_mark in
      let p = places_long in let s = slots_long in let r = rows_long in
      let a = length-append x y in let c = length-append (x ++ y) z in let w = R.whole in
      let of_slots = slots_written _ e₆ e₇ e₈ e₉ in
      let k = long32 m.row_slot in
      let of_rows = behind _ (all32 m.row_slot) (all32 m.row_mark) (rows_from (slots m) (places m)) e₁₀ e₁₁ (omega arith) in
      behind b (x ++ y) z 0 (behind b x y 0 (places_written e₁ e₂ e₃ e₄ e₅) of_slots (omega arith)) of_rows (omega arith) ∙ over_all b (x ++ y ++ z) (omega arith)
