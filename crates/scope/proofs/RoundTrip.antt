-- A STATE READ BACK FROM ITS BYTES IS THE STATE THAT WAS WRITTEN, where each slice has the length that the capacities say and each number fits
-- its width.
--     joined_length, long32, long64     how many bytes are written
--     In b s z                          the bytes z stand in b from place s on; `in_front`, `in_behind`: those of two runs
--     read32, read64                    a number that stands there is read back
--     Column n limit l                  n numbers below a limit; `column_back32`, `column_back64`: a column is read back
--     Stored rows slots places m        a state that its bytes can hold
--     state_back                        THE ROUND TRIP; `state_long`: the bytes are as many as the capacities say
-- Assumes nothing.
use Prim.Native.Nat.{ℕ, zero, suc, ◌+◌, ◌*◌, ◌/◌, ◌%◌, ◌^◌, ◌<◌}
use mathlib.Core.Path.{◌≡◌, refl, sym, ◌∙◌, ap}
use mathlib.Core.List.{List, ◌++◌}
use native.Mathlib.Nat.{mod-eq_of_lt}
use native.Mathlib.Omega.{arith}
use lib.Arith.{mod-mul}
use lib.ListN.{length, length-append, get_or-append}
use lib.Seq.{get_or-append-add, ext_get_or}
use Rattle.scope.specs.Lists.{at, tabulate}
use Rattle.scope.specs.Memory.{Memory, memory}
use Rattle.scope.specs.Bytes.{u32_at, u64_at, bytes32, bytes64, column32, column64, joined, all32, all64, slots_from, rows_from, state_size, state_in, places_bytes, slots_bytes, rows_bytes, state_bytes}
use Rattle.scope.proofs.Members.{cases}
use Rattle.scope.proofs.Below.{tabulate_length, tabulate_at}

-- ---- how many bytes

pub joined_length : (f : ℕ → List ℕ) (w : ℕ) → ((i : ℕ) → length (f i) ≡ w) → (n : ℕ) → length (joined f n) ≡ w * n
unfolding joined
joined_length f w e zero = omega arith
joined_length f w e (suc n) = length-append (joined f n) (f n) ∙ (let a = joined_length f w e n in let b = e n in let z : length (joined f n) + length (f n) ≡ w * suc n = omega arith in z)

pub long32 : (l : List ℕ) → length (all32 l) ≡ 4 * length l
long32 l = joined_length (λ i. bytes32 (at l i)) 4 (λ i. refl) (length l)

pub long64 : (l : List ℕ) → length (all64 l) ≡ 8 * length l
long64 l = joined_length (λ i. bytes64 (at l i)) 8 (λ i. refl) (length l)

-- ---- bytes that stand in others

pub record In (b : List ℕ) (s : ℕ) (z : List ℕ) : Type 0 where
  pub here : (k : ℕ) → k < length z → at b (s + k) ≡ at z k

pub in_all : (b : List ℕ) → In b 0 b
in_all b = record { here = λ k h. ap (at b) (let z : 0 + k ≡ k = omega arith in z) }

module _ {b : List ℕ} {s : ℕ} (x y : List ℕ) (I : In b s (x ++ y)) where
  pub in_front : In b s x
  in_front = record { here = λ k h. I.here k (let e = length-append x y in omega arith) ∙ get_or-append x y 0 k h }

  pub in_behind : {n : ℕ} → n ≡ s + length x → In b n y
  in_behind {n} e = record {
    here = λ k h.
        ap (at b) (let z : n + k ≡ s + (length x + k) = omega arith in z) ∙ I.here (length x + k) (let l = length-append x y in omega arith)
        ∙ get_or-append-add x y k 0;
  }

-- the i-th of n runs of w bytes
in_joined : {b : List ℕ} {s : ℕ} (f : ℕ → List ℕ) (w : ℕ) → ((i : ℕ) → length (f i) ≡ w) → (n : ℕ) → In b s (joined f n) → (i : ℕ) → i < n → In b (s + i * w) (f i)
unfolding joined
in_joined f w e zero I i h = absurd (omega arith)
in_joined {b} {s} f w e (suc n) I i h = cases i n
    (λ q. rw q (in_behind (joined f n) (f n) I (let l = joined_length f w e n in omega arith)))
    (λ q. in_joined f w e n (in_front (joined f n) (f n) I) i (omega arith))

-- ---- numbers

-- a number's low half by its bytes, and a number by its halves
low32 : (n : ℕ) → n % 2 ^ 8 + n / 2 ^ 8 % 2 ^ 8 * 2 ^ 8 + n / 2 ^ 16 % 2 ^ 8 * 2 ^ 16 + n / 2 ^ 24 % 2 ^ 8 * 2 ^ 24 ≡ n % 2 ^ 32
low32 n =
    let a : n % 2 ^ 16 ≡ n / 2 ^ 8 % 2 ^ 8 * 2 ^ 8 + n % 2 ^ 8 = mod-mul n (omega arith) (omega arith) in
    let b : n % 2 ^ 24 ≡ n / 2 ^ 16 % 2 ^ 8 * 2 ^ 16 + n % 2 ^ 16 = mod-mul n (omega arith) (omega arith) in
    let c : n % 2 ^ 32 ≡ n / 2 ^ 24 % 2 ^ 8 * 2 ^ 24 + n % 2 ^ 24 = mod-mul n (omega arith) (omega arith) in
    omega arith

halves : (n : ℕ) → n % 2 ^ 32 + n / 2 ^ 32 % 2 ^ 32 * 2 ^ 32 ≡ n % 2 ^ 64
halves n = let a : n % 2 ^ 64 ≡ n / 2 ^ 32 % 2 ^ 32 * 2 ^ 32 + n % 2 ^ 32 = mod-mul n (omega arith) (omega arith) in omega arith

half_back : {b : List ℕ} {s : ℕ} (n : ℕ) → In b s (bytes32 n) → u32_at b s ≡ n % 2 ^ 32
half_back {b} {s} n I =
    let first : at b s ≡ n % 2 ^ 8 = ap (at b) (let z : s ≡ s + 0 = omega arith in z) ∙ I.here 0 (omega arith) in
    rw (first, I.here 1 (omega arith), I.here 2 (omega arith), I.here 3 (omega arith)) (low32 n)

pub read32 : {b : List ℕ} {s : ℕ} (n : ℕ) → In b s (bytes32 n) → n < 2 ^ 32 → u32_at b s ≡ n
read32 n I h = half_back n I ∙ mod-eq_of_lt h

pub read64 : {b : List ℕ} {s : ℕ} (n : ℕ) → In b s (bytes64 n) → n < 2 ^ 64 → u64_at b s ≡ n
read64 n I h =
    rw (half_back n (in_front (bytes32 n) (bytes32 (n / 2 ^ 32)) I), half_back (n / 2 ^ 32) (in_behind (bytes32 n) (bytes32 (n / 2 ^ 32)) I refl))
    (halves n ∙ mod-eq_of_lt h)

-- ---- columns

pub record Column (n limit : ℕ) (l : List ℕ) : Type 0 where
  pub long : length l ≡ n
  pub low : (i : ℕ) → at l i < limit

-- what is read at each place is the list
column_is : (f : ℕ → ℕ) (n : ℕ) (l : List ℕ) → length l ≡ n → ((i : ℕ) → i < n → f i ≡ at l i) → tabulate f n ≡ l
column_is f n l e h =
    let k = tabulate_length f 0 n in
    ext_get_or 0 (tabulate f n) l (k ∙ sym e) (λ i j. let g : i < n = omega arith in tabulate_at f n i g ∙ h i g)

module _ {b : List ℕ} {s n : ℕ} {l : List ℕ} where
  pub column_back32 : Column n (2 ^ 32) l → In b s (all32 l) → column32 b s 4 n ≡ l
  column_back32 C I =
      let e = C.long in
      column_is (λ i. u32_at b (s + i * 4)) n l e (λ i h. read32 (at l i) (in_joined (λ i. bytes32 (at l i)) 4 (λ i. refl) (length l) I i (omega arith)) (C.low i))

  pub column_back64 : Column n (2 ^ 64) l → In b s (all64 l) → column64 b s 8 n ≡ l
  column_back64 C I =
      let e = C.long in
      column_is (λ i. u64_at b (s + i * 8)) n l e (λ i h. read64 (at l i) (in_joined (λ i. bytes64 (at l i)) 8 (λ i. refl) (length l) I i (omega arith)) (C.low i))

-- ---- a state

pub record Stored (rows slots places : ℕ) (m : Memory) : Type 0 where
  pub head : Column 2 (2 ^ 32) m.head
  pub cells : Column places (2 ^ 64) m.cells
  pub parent : Column places (2 ^ 32) m.parent
  pub rank : Column places (2 ^ 32) m.rank
  pub cell_mark : Column places (2 ^ 32) m.cell_mark
  pub slot_row : Column slots (2 ^ 32) m.slot_row
  pub slot_cell : Column slots (2 ^ 32) m.slot_cell
  pub prev : Column slots (2 ^ 32) m.prev
  pub next : Column slots (2 ^ 32) m.next
  pub row_slot : Column rows (2 ^ 32) m.row_slot
  pub row_mark : Column rows (2 ^ 32) m.row_mark

-- a column of four bytes a number, behind others
more32 : (x l : List ℕ) {n k : ℕ} → Column n (2 ^ 32) l → length x ≡ k → length (x ++ all32 l) ≡ k + 4 * n
more32 x l {n} {k} C e = length-append x (all32 l) ∙ (let a = long32 l in let c = C.long in let z : length x + length (all32 l) ≡ k + 4 * n = omega arith in z)

module _ {rows slots places : ℕ} {m : Memory} (S : Stored rows slots places m) where
  -- the bytes of each part up to its later columns, and how many they are
  abbrev up_to_parent : List ℕ
  up_to_parent = all32 m.head ++ all64 m.cells

  abbrev up_to_rank : List ℕ
  up_to_rank = up_to_parent ++ all32 m.parent

  abbrev up_to_mark : List ℕ
  up_to_mark = up_to_rank ++ all32 m.rank

  abbrev of_places : List ℕ
  of_places = places_bytes m.head m.cells m.parent m.rank m.cell_mark

  abbrev up_to_prev : List ℕ
  up_to_prev = all32 m.slot_row ++ all32 m.slot_cell

  abbrev up_to_next : List ℕ
  up_to_next = up_to_prev ++ all32 m.prev

  abbrev of_slots : List ℕ
  of_slots = slots_bytes m.slot_row m.slot_cell m.prev m.next

  abbrev of_rows : List ℕ
  of_rows = rows_bytes m.row_slot m.row_mark

  head_long : length (all32 m.head) ≡ 8
  head_long = let a = long32 m.head in let h = S.head.long in omega arith

  parent_from : length up_to_parent ≡ 8 + 8 * places
  parent_from =
      length-append (all32 m.head) (all64 m.cells)
      ∙ (let h = head_long in let a = long64 m.cells in let c = S.cells.long in let z : length (all32 m.head) + length (all64 m.cells) ≡ 8 + 8 * places = omega arith in z)

  rank_from : length up_to_rank ≡ 8 + 8 * places + 4 * places
  rank_from = more32 up_to_parent m.parent S.parent parent_from

  mark_from : length up_to_mark ≡ 8 + 8 * places + 4 * places + 4 * places
  mark_from = more32 up_to_rank m.rank S.rank rank_from

  places_long : length of_places ≡ slots_from places
  places_long = let a = more32 up_to_mark m.cell_mark S.cell_mark mark_from in omega arith

  cell_from : length (all32 m.slot_row) ≡ 4 * slots
  cell_from = let a = long32 m.slot_row in let h = S.slot_row.long in omega arith

  prev_from : length up_to_prev ≡ 4 * slots + 4 * slots
  prev_from = more32 (all32 m.slot_row) m.slot_cell S.slot_cell cell_from

  next_from : length up_to_next ≡ 4 * slots + 4 * slots + 4 * slots
  next_from = more32 up_to_prev m.prev S.prev prev_from

  slots_long : length of_slots ≡ 16 * slots
  slots_long = let a = more32 up_to_next m.next S.next next_from in omega arith

  row_mark_from : length (all32 m.row_slot) ≡ 4 * rows
  row_mark_from = let a = long32 m.row_slot in let h = S.row_slot.long in omega arith

  front_long : length (of_places ++ of_slots) ≡ rows_from slots places
  front_long = length-append of_places of_slots ∙ (let p = places_long in let s = slots_long in let z : length of_places + length of_slots ≡ rows_from slots places = omega arith in z)

  pub state_long : length (state_bytes m) ≡ state_size rows slots places
  unfolding state_bytes
  state_long =
      length-append (of_places ++ of_slots) of_rows
      ∙ (let f = front_long in let r = more32 (all32 m.row_slot) m.row_mark S.row_mark row_mark_from in
      let z : length (of_places ++ of_slots) + length of_rows ≡ state_size rows slots places = omega arith in z)

  -- THE ROUND TRIP
  pub state_back : state_in rows slots places (state_bytes m) ≡ m
  unfolding state_in state_bytes
  state_back =
      let b = state_bytes m in
      let front = in_front (of_places ++ of_slots) of_rows (in_all b) in
      let ps = in_front of_places of_slots front in
      let ps₂ = in_front up_to_mark (all32 m.cell_mark) ps in
      let ps₃ = in_front up_to_rank (all32 m.rank) ps₂ in
      let ps₄ = in_front up_to_parent (all32 m.parent) ps₃ in
      let cells : In b 8 (all64 m.cells) = in_behind (all32 m.head) (all64 m.cells) ps₄ (let e = head_long in omega arith) in
      let parent : In b (8 + 8 * places) (all32 m.parent) = in_behind up_to_parent (all32 m.parent) ps₃ (let e = parent_from in omega arith) in
      let rank : In b (8 + 12 * places) (all32 m.rank) = in_behind up_to_rank (all32 m.rank) ps₂ (let e = rank_from in omega arith) in
      let cell_mark : In b (8 + 16 * places) (all32 m.cell_mark) = in_behind up_to_mark (all32 m.cell_mark) ps (let e = mark_from in omega arith) in
      let from = slots_from places in
      let ss : In b from of_slots = in_behind of_places of_slots front (let e = places_long in omega arith) in
      let ss₂ = in_front up_to_next (all32 m.next) ss in
      let ss₃ = in_front up_to_prev (all32 m.prev) ss₂ in
      let slot_cell : In b (from + 4 * slots) (all32 m.slot_cell) = in_behind (all32 m.slot_row) (all32 m.slot_cell) ss₃ (let e = cell_from in omega arith) in
      let prev : In b (from + 8 * slots) (all32 m.prev) = in_behind up_to_prev (all32 m.prev) ss₂ (let e = prev_from in omega arith) in
      let next : In b (from + 12 * slots) (all32 m.next) = in_behind up_to_next (all32 m.next) ss (let e = next_from in omega arith) in
      let rs : In b (rows_from slots places) of_rows = in_behind (of_places ++ of_slots) of_rows (in_all b) (let e = front_long in omega arith) in
      let row_mark : In b (rows_from slots places + 4 * rows) (all32 m.row_mark) = in_behind (all32 m.row_slot) (all32 m.row_mark) rs (let e = row_mark_from in omega arith) in
      λ i. memory
      (column_back32 S.head (in_front (all32 m.head) (all64 m.cells) ps₄) i) (column_back64 S.cells cells i)
      (column_back32 S.parent parent i) (column_back32 S.rank rank i) (column_back32 S.cell_mark cell_mark i)
      (column_back32 S.slot_row (in_front (all32 m.slot_row) (all32 m.slot_cell) ss₃) i) (column_back32 S.slot_cell slot_cell i)
      (column_back32 S.prev prev i) (column_back32 S.next next i)
      (column_back32 S.row_slot (in_front (all32 m.row_slot) (all32 m.row_mark) rs) i) (column_back32 S.row_mark row_mark i)
