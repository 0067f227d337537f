-- Document 01, "A host in Rust or C runs both ways in on byte slices": numbers, tables, states and answers as bytes, and the two entry
-- points as functions from the bytes lent to the result and the bytes left. A byte is a number below 256.
-- Assumes nothing.
use Rattle.std.specs.Prelude.{ℕ, zero, suc, ◌+◌, ◌-◌, ◌*◌, ◌/◌, ◌%◌, ◌^◌, Bool, ◌&&◌, cond, List, [], ◌∷◌, ◌++◌, map, eqb, leb, ltb, length, get_or, replicate, Err, Ok}
use Rattle.std.specs.Float.{nan, binary64}
use Rattle.std.specs.Float.Ieee.{of_bits, to_bits}
use Rattle.scope.specs.declared.Refusal.TheVariants.{BadLengths}
use Rattle.scope.specs.declared.ReadOut.TheVariants.{Nothing, Closed, Outline}
use Rattle.scope.specs.Lists.{at, total, tabulate}
use Rattle.scope.specs.Answers.{refusal_of, index_of, kind_of, verdict_of, polygons_of, rings_of, require, ◌▷◌, if_accepted, Answer, Verdict}
use Rattle.scope.specs.Table.{Table, table, row_count}
use Rattle.scope.specs.Memory.{Memory, memory, Output, output}
use Rattle.scope.specs.Area.{positive_zero}
use Rattle.scope.specs.Calls.{Outcome, Reading, over, opening, offering, reading_out, dissolving}

-- ---- numbers: little-endian

-- the number in four bytes, or eight, from place i on
abbrev pub u32_at : List ℕ → ℕ → ℕ
u32_at b i = at b i + at b (i + 1) * 2 ^ 8 + at b (i + 2) * 2 ^ 16 + at b (i + 3) * 2 ^ 24

abbrev pub u64_at : List ℕ → ℕ → ℕ
u64_at b i = u32_at b i + u32_at b (i + 4) * 2 ^ 32

-- a number's low four bytes, or eight
abbrev pub bytes32 : ℕ → List ℕ
bytes32 n = n % 2 ^ 8 ∷ n / 2 ^ 8 % 2 ^ 8 ∷ n / 2 ^ 16 % 2 ^ 8 ∷ n / 2 ^ 24 % 2 ^ 8 ∷ []

abbrev pub bytes64 : ℕ → List ℕ
bytes64 n = bytes32 n ++ bytes32 (n / 2 ^ 32)

-- n numbers, the first at place start, each step bytes after the one before
abbrev pub column32 : List ℕ → ℕ → ℕ → ℕ → List ℕ
column32 b start step n = tabulate (λ i. u32_at b (start + i * step)) n

abbrev pub column64 : List ℕ → ℕ → ℕ → ℕ → List ℕ
column64 b start step n = tabulate (λ i. u64_at b (start + i * step)) n

-- the bytes f 0 to f (n − 1), one after the other
unfoldable pub joined : (ℕ → List ℕ) → ℕ → List ℕ
joined f zero = []
joined f (suc n) = joined f n ++ f n

-- every number of a list, in four bytes or in eight
abbrev pub all32 : List ℕ → List ℕ
all32 l = joined (λ i. bytes32 (at l i)) (length l)

abbrev pub all64 : List ℕ → List ℕ
all64 l = joined (λ i. bytes64 (at l i)) (length l)

-- ---- a table and a list of cells

-- A table row: edge u64, reverse u32, the bits of the area term u64 (20 bytes). A NaN's pattern is read as `nan`, which isn't finite.
abbrev pub rows_in : List ℕ → ℕ
rows_in b = length b / 20

unfoldable pub table_in : List ℕ → Table
table_in b = table (column64 b 0 20 (rows_in b)) (column32 b 8 20 (rows_in b)) (map (of_bits binary64) (column64 b 12 20 (rows_in b)))

-- A cell: u64.
abbrev pub cells_in : List ℕ → List ℕ
cells_in b = column64 b 0 8 (length b / 8)

-- ---- a state: head, cells, parent, rank, cell mark, slot row, slot cell, previous, next, row slot, row mark, each whole, in this order

abbrev pub slots_from : ℕ → ℕ
slots_from places = 8 + 20 * places

abbrev pub rows_from : ℕ → ℕ → ℕ
rows_from slots places = slots_from places + 16 * slots

-- 8 + 20·places + 16·slots + 8·rows bytes
abbrev pub state_size : ℕ → ℕ → ℕ → ℕ
state_size rows slots places = rows_from slots places + 8 * rows

unfoldable pub state_in : ℕ → ℕ → ℕ → List ℕ → Memory
state_in rows slots places b = memory
    (column32 b 0 4 2)
    (column64 b 8 8 places)
    (column32 b (8 + 8 * places) 4 places) (column32 b (8 + 12 * places) 4 places) (column32 b (8 + 16 * places) 4 places)
    (column32 b (slots_from places) 4 slots) (column32 b (slots_from places + 4 * slots) 4 slots)
    (column32 b (slots_from places + 8 * slots) 4 slots) (column32 b (slots_from places + 12 * slots) 4 slots)
    (column32 b (rows_from slots places) 4 rows) (column32 b (rows_from slots places + 4 * rows) 4 rows)

abbrev pub places_bytes : List ℕ → List ℕ → List ℕ → List ℕ → List ℕ → List ℕ
places_bytes head cells parent rank cell_mark = all32 head ++ all64 cells ++ all32 parent ++ all32 rank ++ all32 cell_mark

abbrev pub slots_bytes : List ℕ → List ℕ → List ℕ → List ℕ → List ℕ
slots_bytes slot_row slot_cell prev next = all32 slot_row ++ all32 slot_cell ++ all32 prev ++ all32 next

abbrev pub rows_bytes : List ℕ → List ℕ → List ℕ
rows_bytes row_slot row_mark = all32 row_slot ++ all32 row_mark

unfoldable pub state_bytes : Memory → List ℕ
state_bytes m =
    places_bytes m.head m.cells m.parent m.rank m.cell_mark
    ++ slots_bytes m.slot_row m.slot_cell m.prev m.next
    ++ rows_bytes m.row_slot m.row_mark

-- ---- what is answered

-- The result: 0 when accepted, else number · 2^32 + index. An index past 2^32 − 1, which only a longer list than that has, is given as 2^32 − 1.
abbrev pub in32 : ℕ → ℕ
in32 n = cond (ltb n (2 ^ 32)) n (2 ^ 32 - 1)

unfoldable pub result_of : Verdict → ℕ
result_of v = refusal_of v * 2 ^ 32 + in32 (index_of v)

-- Bits of the first outer area; 0 for nothing and closed. A NaN's bits are 7FF8000000000000.
unfoldable pub area_bits : Answer → ℕ
area_bits (Ok Nothing) = 0
area_bits (Ok Closed) = 0
area_bits (Ok (Outline polygons rings area)) = to_bits binary64 area
area_bits (Err why) = 0

-- as many edges as all rings are long
unfoldable pub edge_count : Answer → Output → ℕ
edge_count r o = total (at o.size) (rings_of r)

-- Kind u32 (0 nothing, 1 closed, 2 outline), polygons u32, rings u32, edges u32, bits of the first outer area u64.
abbrev pub summary_record : ℕ → ℕ → ℕ → ℕ → ℕ → List ℕ
summary_record kind polygons rings edges bits = bytes32 kind ++ bytes32 polygons ++ bytes32 rings ++ bytes32 edges ++ bytes64 bits

-- For each ring start u32, length u32, group u32, bits of the area u64.
abbrev pub ring_record : ℕ → ℕ → ℕ → ℕ → List ℕ
ring_record start size group bits = bytes32 start ++ bytes32 size ++ bytes32 group ++ bytes64 bits

abbrev pub ring_bytes : Output → ℕ → List ℕ
ring_bytes o i = ring_record (at o.start i) (at o.size i) (at o.group i) (to_bits binary64 (get_or o.area i nan))

-- Then the edge rows, u32 each.
abbrev pub edge_bytes : Output → ℕ → List ℕ
edge_bytes o i = bytes32 (at o.edges i)

unfoldable pub read_bytes : Answer → Output → List ℕ
read_bytes r o =
    summary_record (kind_of r) (polygons_of r) (rings_of r) (edge_count r o) (area_bits r)
    ++ joined (ring_bytes o) (rings_of r)
    ++ joined (edge_bytes o) (edge_count r o)

-- ---- the two entry points

-- At most 1,024 rows, 1,024 slots, 256 places and 256 cells, and whole records.
abbrev pub table_fits : List ℕ → Bool
table_fits b = eqb (length b % 20) 0 && leb (rows_in b) 1024

abbrev pub list_fits : List ℕ → Bool
list_fits b = eqb (length b % 8) 0 && leb (length b / 8) 256

abbrev pub room_fits : ℕ → ℕ → Bool
room_fits slots places = leb slots 1024 && leb places 256

-- cleared memory of these capacities, and cleared outputs of n records and n rows: no more rings or edges stand than rows
unfoldable pub cleared : ℕ → ℕ → ℕ → Memory
cleared rows slots places = memory (replicate 2 0) (replicate places 0) (replicate places 0) (replicate places 0) (replicate places 0)
    (replicate slots 0) (replicate slots 0) (replicate slots 0) (replicate slots 0) (replicate rows 0) (replicate rows 0)

unfoldable pub cleared_output : ℕ → Output
cleared_output n = output (replicate n 0) (replicate n 0) (replicate n 0) (replicate n positive_zero) (replicate n 0)

-- The result, and the bytes of the output and of the state. A refused call changes no byte.
pub record Left : Type 0 where
  pub result : ℕ
  pub state : List ℕ
  pub out : List ℕ

abbrev pub left : Verdict → List ℕ → List ℕ → Left
left v state out = record { result = result_of v; state = state; out = out }

abbrev pub refused : List ℕ → List ℕ → Left
refused state out = left (Err BadLengths) state out

-- open and offer write the state
unfoldable pub storing : Outcome → List ℕ → List ℕ → Left
storing o state out = left o.answer (if_accepted o.answer (state_bytes o.left) state) out

-- Dissolve and read out write, when accepted, the answer; too short an output is refusal 10.
abbrev pub shown_verdict : Answer → Output → List ℕ → Verdict
shown_verdict r o out = verdict_of r ▷ require (leb (length (read_bytes r o)) (length out)) BadLengths

abbrev pub shown_out : Answer → Output → List ℕ → List ℕ
shown_out r o out = if_accepted (shown_verdict r o out) (over (read_bytes r o) out) out

unfoldable pub showing : Reading → List ℕ → List ℕ → Left
showing r state out = left (shown_verdict r.answer r.out out) state (shown_out r.answer r.out out)

-- Dissolve has no state: its work memory is its own.
unfoldable pub zone_dissolving : List ℕ → List ℕ → List ℕ → ℕ → ℕ → ℕ → Left
zone_dissolving tableBytes cells out mode slots places =
    let t = table_in tableBytes in
    let r = dissolving t (cleared (row_count t) slots places) mode (cells_in cells) (cleared_output (row_count t)) in
    cond (table_fits tableBytes && list_fits cells && room_fits slots places) (showing r [] out) (refused [] out)

-- Call 0 opens with mode `value`, 1 offers the cell `value`, 2 reads out; any other is refusal 10.
unfoldable pub calling : Table → Memory → List ℕ → List ℕ → ℕ → ℕ → Left
calling t m state out call value =
    cond (eqb call 0) (storing (opening t m value) state out)
    (cond (eqb call 1) (storing (offering t m value) state out)
    (cond (eqb call 2) (showing (reading_out t m (cleared_output (row_count t))) state out) (refused state out)))

unfoldable pub zone_standing : List ℕ → List ℕ → List ℕ → ℕ → ℕ → ℕ → ℕ → Left
zone_standing tableBytes state out slots places call value =
    let rows = rows_in tableBytes in
    let fits = table_fits tableBytes && room_fits slots places && eqb (length state) (state_size rows slots places) in
    cond fits (calling (table_in tableBytes) (state_in rows slots places state) state out call value) (refused state out)
